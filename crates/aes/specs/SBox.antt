-- The S-box of FIPS 197: the inverse in the field, then an affine map of its bits. Assumes nothing.
use Rattle.std.specs.Prelude.{ℕ, zero, suc, ◌+◌, ◌*◌, ◌/◌, ◌%◌, ◌^◌, bit_xor}
use Rattle.aes.specs.Field.{inverse}

-- bit i of a byte, i counted modulo 8
unfoldable pub bit : ℕ → ℕ → ℕ
bit b i = b / 2 ^ (i % 8) % 2

-- bit i of the affine map, with the constant 0x63
unfoldable pub affine_bit : ℕ → ℕ → ℕ
affine_bit b i =
    bit_xor (bit b i) (bit_xor (bit b (i + 4)) (bit_xor (bit b (i + 5)) (bit_xor (bit b (i + 6)) (bit_xor (bit b (i + 7)) (bit 0x63 i)))))

-- the n lowest bits of the affine map
unfoldable pub affine_low : ℕ → ℕ → ℕ
affine_low zero b = 0
affine_low (suc n) b = affine_low n b + 2 ^ n * affine_bit b n

unfoldable pub affine : ℕ → ℕ
affine b = affine_low 8 b

unfoldable pub s_box : ℕ → ℕ
s_box b = affine (inverse b)
