-- Bits of numbers, and numbers of bits. Assumes nothing.
use Rattle.std.specs.Prelude.{ℕ, zero, suc, ◌+◌, ◌*◌, ◌/◌, ◌^◌, Bool, cond}
use Rattle.labels.specs.Words.{odd}

-- bit j of a number
abbrev pub bit : ℕ → ℕ → Bool
bit j a = odd (a / 2 ^ j)

-- a bit as a number
abbrev pub digit : Bool → ℕ
digit b = cond b 1 0

-- the number whose bit j is b j, for j below n
abbrev pub number : ℕ → (ℕ → Bool) → ℕ
number zero b = 0
number (suc n) b = digit (b n) * 2 ^ n + number n b
