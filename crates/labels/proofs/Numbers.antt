-- Numbers of bits. Assumes nothing.
use Rattle.std.proofs.Common.{◌≡◌, ℕ, zero, suc, ◌+◌, ◌*◌, ◌^◌, ◌<◌, Bool, true, false, cond, refl, ap₂, arith}
use native.Mathlib.Nat.{two-pow-succ}
use Rattle.labels.specs.Numbers.{number}

pub two_pow : (k : ℕ) → 2 ^ suc k ≡ 2 ^ k + 2 ^ k
two_pow k = two-pow-succ k

pub number_below : (n : ℕ) (b : ℕ → Bool) → number n b < 2 ^ n
number_below zero b = omega arith
number_below (suc n) b =
    let ih = number_below n b in
    let e = two_pow n in
    elim (b n) as (λ v. cond v 1 0 * 2 ^ n + number n b < 2 ^ suc n) [ true ↦ omega arith | false ↦ omega arith ]

-- the same bits give the same number
pub number_same : (n : ℕ) (b c : ℕ → Bool) → ((k : ℕ) → k < n → b k ≡ c k) → number n b ≡ number n c
number_same zero b c h = refl
number_same (suc n) b c h = ap₂ (λ u v. cond u 1 0 * 2 ^ n + v) (h n (omega arith)) (number_same n b c (λ k g. h k (omega arith)))
