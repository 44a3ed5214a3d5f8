-- The field GF(2^8) of FIPS 197. A byte is a number below 256, its bits the coefficients of a polynomial. Assumes nothing.
use Rattle.std.specs.Prelude.{◌≡◌, ℕ, zero, suc, ◌*◌, ◌/◌, ◌%◌, ◌<◌, cond, ◌==◌, bit_xor, nat_lt}

-- times x, modulo x^8 + x^4 + x^3 + x + 1, which is 0x11b
unfoldable pub xtime : ℕ → ℕ
xtime b = cond (nat_lt b 128) (2 * b) (bit_xor (2 * b) 0x11b)

-- a times the polynomial of the n lowest bits of b
unfoldable pub times_low : ℕ → ℕ → ℕ → ℕ
times_low zero a b = 0
times_low (suc n) a b = bit_xor (cond (b % 2 == 1) a 0) (times_low n (xtime a) (b / 2))

unfoldable pub times : ℕ → ℕ → ℕ
times a b = times_low 8 a b

-- x^n
unfoldable pub x_power : ℕ → ℕ
x_power zero = 1
x_power (suc n) = xtime (x_power n)

-- b^2 · b^4 · .. · b^(2^n)
unfoldable pub squares : ℕ → ℕ → ℕ
squares zero b = 1
squares (suc n) b = times (times b b) (squares n (times b b))

-- b^254, which is the inverse of b, and 0 at 0
unfoldable pub inverse : ℕ → ℕ
inverse b = squares 7 b

-- what makes it the inverse
abbrev pub InverseLaw : Type 0
InverseLaw = (b : ℕ) → 0 < b → b < 256 → times b (inverse b) ≡ 1
