-- Bytes and paper labels as hex digits. Assumes nothing.
use Rattle.std.specs.Prelude.{ℕ, zero, suc, ◌+◌, ◌/◌, ◌%◌, cond, List, [], ◌∷◌, ◌++◌, nat_lt}
use Rattle.labels.specs.declared.paper.Paper.{Paper}

-- a digit below 16: 0 to 9, then A to F
abbrev pub hex_digit : ℕ → ℕ
hex_digit n = cond (nat_lt n 10) (48 + n) (55 + n)

-- a byte, its high digit first
abbrev pub hex_byte : ℕ → List ℕ
hex_byte n = hex_digit (n / 16) ∷ hex_digit (n % 16) ∷ []

-- a paper label, its high byte first
unfoldable pub hex_label : Paper → List ℕ
hex_label x = hex_byte (x.word / 256) ++ hex_byte (x.word % 256)

-- the bytes f 0 to f (n - 1), one behind the other
abbrev pub hex_bytes : (ℕ → ℕ) → ℕ → List ℕ
hex_bytes f zero = []
hex_bytes f (suc n) = hex_bytes f n ++ hex_byte (f n)
