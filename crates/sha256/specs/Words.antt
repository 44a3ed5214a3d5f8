-- Words of 32 bits, after FIPS 180-4: sum, rotation and shift (3.2), and a word's four bytes, the highest first (3.1). Assumes nothing.
use Rattle.std.specs.Prelude.{ℕ, ◌+◌, ◌-◌, ◌*◌, ◌/◌, ◌%◌, ◌^◌, List, [], ◌∷◌, bit_or, slice_index}

abbrev pub add : ℕ → ℕ → ℕ
add x y = (x + y) % 2 ^ 32

abbrev pub rotr : ℕ → ℕ → ℕ
rotr n x = bit_or (x / 2 ^ n) (x * 2 ^ (32 - n) % 2 ^ 32)

abbrev pub shr : ℕ → ℕ → ℕ
shr n x = x / 2 ^ n

-- word t of some bytes
abbrev pub word_at : List ℕ → ℕ → ℕ
word_at bytes t = slice_index bytes (4 * t) * 16777216 + slice_index bytes (4 * t + 1) * 65536 + slice_index bytes (4 * t + 2) * 256 + slice_index bytes (4 * t + 3)

-- a word's bytes
abbrev pub four : ℕ → List ℕ
four x = x / 16777216 % 256 ∷ x / 65536 % 256 ∷ x / 256 % 256 ∷ x % 256 ∷ []
