-- The bytes of numbers, lowest first, and the sum of two lists of bytes. Assumes nothing.
use Rattle.std.specs.Prelude.{ℕ, ◌*◌, ◌/◌, ◌%◌, ◌^◌, List, [], ◌∷◌, bit_xor}

-- byte i of a number
unfoldable pub byte : ℕ → ℕ → ℕ
byte i n = n / 2 ^ (8 * i) % 256

-- the bytes of a word of 32 bits, and of one of 64
unfoldable pub bytes4 : ℕ → List ℕ
bytes4 n = byte 0 n ∷ byte 1 n ∷ byte 2 n ∷ byte 3 n ∷ []

unfoldable pub bytes8 : ℕ → List ℕ
bytes8 n = byte 0 n ∷ byte 1 n ∷ byte 2 n ∷ byte 3 n ∷ byte 4 n ∷ byte 5 n ∷ byte 6 n ∷ byte 7 n ∷ []

-- two lists of bytes, added byte by byte
unfoldable pub xors : List ℕ → List ℕ → List ℕ
xors [] ys = []
xors (x ∷ xs) [] = []
xors (x ∷ xs) (y ∷ ys) = bit_xor x y ∷ xors xs ys
