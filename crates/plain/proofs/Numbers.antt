-- Numbers of bits. Assumes nothing.
use Rattle.std.proofs.Common.{◌≡◌, ℕ, suc, ◌+◌, ◌*◌, ◌^◌, ◌%◌, ◌<◌, ◌≤◌, inl, inr, arith}
use native.Mathlib.Nat.{pow-succ'}
use Rattle.std.proofs.Math.Pow.{pow_mono}
use Rattle.std.proofs.lemmas.Nat.{shl_whole}
use Rattle.std.proofs.lemmas.Bool.{cases_order}

-- a bit moved up to place j, over a number of j bits
pub shifted_fits : (j row b w : ℕ) → row < 2 ^ j → b ≤ 1 → j < w → row + b * 2 ^ j % 2 ^ w < 2 ^ w
shifted_fits j row b w r h l =
    let p : 2 ^ suc j ≡ 2 * 2 ^ j = pow-succ' 2 j in
    let s : b * 2 ^ j % 2 ^ w ≡ b * 2 ^ j = shl_whole b 1 j w (omega arith) (omega arith) in
    let m : 2 ^ suc j ≤ 2 ^ w = pow_mono l in
    let q : b * 2 ^ j ≤ 2 ^ j = elim (cases_order b 0) [ inl z ↦ rw z (omega arith) | inr a ↦ (let o : b ≡ 1 = grind arith in rw o (omega arith)) ] in
    omega arith
