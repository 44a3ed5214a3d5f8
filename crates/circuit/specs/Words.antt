-- Stretches of words of 16 bits, and what holds of the first so many numbers. Assumes nothing.
use Rattle.std.specs.Prelude.{ℕ, zero, suc, ◌+◌, ◌*◌, Bool, true, ◌&&◌, List, take, drop, nat_lt, bit_or}

-- the bytes of `count` words, from word `from` on
abbrev pub part : ℕ → ℕ → List ℕ → List ℕ
part from count bytes = take (2 * count) (drop (2 * from) bytes)

-- f 0 to f (n - 1) are below a bound
abbrev pub all_below : (ℕ → ℕ) → ℕ → ℕ → Bool
all_below f zero bound = true
all_below f (suc n) bound = nat_lt (f n) bound && all_below f n bound

-- f 0 + .. + f (n - 1)
abbrev pub sum_below : (ℕ → ℕ) → ℕ → ℕ
sum_below f zero = 0
sum_below f (suc n) = sum_below f n + f n

-- the bitwise or of f 0 to f (n - 1)
abbrev pub united : (ℕ → ℕ) → ℕ → ℕ
united f zero = 0
united f (suc n) = bit_or (united f n) (f n)
