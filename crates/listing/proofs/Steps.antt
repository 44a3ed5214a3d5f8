-- Lines of the same values. Assumes nothing.
use Rattle.std.proofs.Common.{◌≡◌, ℕ, zero, suc, ◌<◌, List, ◌++◌, decimal, refl, ap₂, arith}
use Rattle.listing.specs.Lines.{numbers}

-- the same values give the same text
pub numbers_same : (f h : ℕ → ℕ) (n : ℕ) → ((k : ℕ) → k < n → f k ≡ h k) → numbers f n ≡ numbers h n
numbers_same f h zero e = refl
numbers_same f h (suc n) e = ap₂ (λ (xs : List ℕ) (k : ℕ). xs ++ decimal k) (numbers_same f h n (λ w l. e w (omega arith))) (e n (omega arith))
