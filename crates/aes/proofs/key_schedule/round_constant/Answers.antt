use Rattle.std.proofs.Common.{ℕ, ◌-◌, ◌<◌, [], ◌∷◌, refl, arith}
use Rattle.aes.specs.Field.{xtime, x_power}
use Rattle.aes.specs.Bytes.{byte, bytes4}
use Rattle.aes.specs.KeyExpansion.{rcon}
use Rattle.aes.proofs.Entries.{word_at}
use Rattle.aes.proofs.key_schedule.round_constant.Goals as goal

pub returns : goal.returns
unfolding xtime x_power byte bytes4 rcon
returns c =
    let h : c.args.i - 1 < 10 = omega arith in
    word_at (λ (k : ℕ). x_power k ∷ 0 ∷ 0 ∷ 0 ∷ []) 10 (c.args.i - 1) refl h
