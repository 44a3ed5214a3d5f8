use Rattle.std.proofs.Common.{◌≡◌, ℕ, ◌^◌, ◌<◌, get_or}
use Rattle.tables.proofs.Mixing.{level_mix}
use Rattle.tables.proofs.random.mix_levels.Given as goal

abbrev pub invariant-loop-l : goal.invariant-loop-l
invariant-loop-l l = (k : ℕ) → k < 2 ^ l.l → get_or l.fs k 0 ≡ level_mix l.s l.nums l.l k
