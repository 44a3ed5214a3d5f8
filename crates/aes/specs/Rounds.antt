-- The transformations of a round, as FIPS 197 has them. The state is 16 bytes, column after column. Assumes nothing.
use Rattle.std.specs.Prelude.{ℕ, ◌+◌, ◌*◌, ◌%◌, List, [], ◌∷◌, ◌++◌, map, bit_xor, slice_index}
use Rattle.aes.specs.Field.{times}
use Rattle.aes.specs.SBox.{s_box}
use Rattle.aes.specs.Bytes.{xors}

-- the byte in row r of column c, c counted modulo 4
unfoldable pub cell : List ℕ → ℕ → ℕ → ℕ
cell s r c = slice_index s (r + 4 * (c % 4))

unfoldable pub sub_bytes : List ℕ → List ℕ
sub_bytes s = map s_box s

-- row r is rotated left by r places
unfoldable pub shifted_column : List ℕ → ℕ → List ℕ
shifted_column s c = cell s 0 c ∷ cell s 1 (c + 1) ∷ cell s 2 (c + 2) ∷ cell s 3 (c + 3) ∷ []

unfoldable pub shift_rows : List ℕ → List ℕ
shift_rows s = shifted_column s 0 ++ (shifted_column s 1 ++ (shifted_column s 2 ++ shifted_column s 3))

unfoldable pub sum4 : ℕ → ℕ → ℕ → ℕ → ℕ
sum4 a b c d = bit_xor (bit_xor (bit_xor a b) c) d

-- a column times the polynomial 3x^3 + x^2 + x + 2
unfoldable pub mixed : ℕ → ℕ → ℕ → ℕ → List ℕ
mixed a b c d =
    sum4 (times 2 a) (times 3 b) c d
    ∷ sum4 a (times 2 b) (times 3 c) d
    ∷ sum4 a b (times 2 c) (times 3 d)
    ∷ sum4 (times 3 a) b c (times 2 d)
    ∷ []

unfoldable pub mixed_column : List ℕ → ℕ → List ℕ
mixed_column s c = mixed (cell s 0 c) (cell s 1 c) (cell s 2 c) (cell s 3 c)

unfoldable pub mix_columns : List ℕ → List ℕ
mix_columns s = mixed_column s 0 ++ (mixed_column s 1 ++ (mixed_column s 2 ++ mixed_column s 3))

unfoldable pub add_round_key : List ℕ → List ℕ → List ℕ
add_round_key s k = xors s k

unfoldable pub full_round : List ℕ → List ℕ → List ℕ
full_round s k = add_round_key (mix_columns (shift_rows (sub_bytes s))) k

-- the last round mixes no columns
unfoldable pub last_round : List ℕ → List ℕ → List ℕ
last_round s k = add_round_key (shift_rows (sub_bytes s)) k
