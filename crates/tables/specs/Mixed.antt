-- The ⊕ of some numbers. Assumes nothing.
use Rattle.std.specs.Prelude.{ℕ, zero, suc, bit_xor}

-- the ⊕ of f 0 to f (n - 1)
abbrev pub mixed : ℕ → (ℕ → ℕ) → ℕ
mixed zero f = 0
mixed (suc n) f = bit_xor (mixed n f) (f n)
