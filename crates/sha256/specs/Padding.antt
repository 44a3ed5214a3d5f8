-- The padding of a message, in bytes (FIPS 180-4, 5.1.1). Assumes nothing.
use Rattle.std.specs.Prelude.{ℕ, ◌-◌, ◌*◌, ◌/◌, ◌%◌, ◌^◌, List, [], ◌∷◌, ◌++◌, length, replicate}

-- how many zero bytes a message of n bytes gets: the least k for which n + 1 + k is 56 modulo 64
abbrev pub zeros : ℕ → ℕ
zeros n = (119 - n % 64) % 64

-- eight bytes of a 64-bit number, the highest first
abbrev pub eight : ℕ → List ℕ
eight n =
    n / 72057594037927936 % 256 ∷ n / 281474976710656 % 256 ∷ n / 1099511627776 % 256 ∷ n / 4294967296 % 256 ∷ n / 16777216 % 256 ∷ n / 65536 % 256 ∷ n / 256 % 256 ∷ n % 256 ∷ []

-- the length field: the length in bits, in 64 bits. The standard has messages below 2^64 bits only; the length of a longer one is taken modulo 2^64.
abbrev pub bits : ℕ → ℕ
bits n = n * 8 % 2 ^ 64

-- a byte with the highest bit set, zeros, and the length field
abbrev pub padding : ℕ → List ℕ
padding n = 0x80 ∷ (replicate (zeros n) 0 ++ eight (bits n))

unfoldable pub padded : List ℕ → List ℕ
padded message = message ++ padding (length message)
