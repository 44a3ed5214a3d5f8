-- The key expansion of AES-128, as FIPS 197 has it: 44 words of four bytes from a key of 16 bytes. Assumes nothing.
use Rattle.std.specs.Prelude.{ℕ, zero, suc, ◌+◌, ◌-◌, ◌*◌, ◌/◌, ◌%◌, cond, List, [], ◌∷◌, ◌++◌, map, take, drop, ◌==◌, slice_index_or}
use Rattle.aes.specs.Field.{x_power}
use Rattle.aes.specs.SBox.{s_box}
use Rattle.aes.specs.Bytes.{xors}

unfoldable pub rot_word : List ℕ → List ℕ
rot_word w = drop 1 w ++ take 1 w

unfoldable pub sub_word : List ℕ → List ℕ
sub_word w = map s_box w

-- the round constant i, counted from 1
unfoldable pub rcon : ℕ → List ℕ
rcon i = x_power (i - 1) ∷ 0 ∷ 0 ∷ 0 ∷ []

-- what word i adds to the word four before it, from the word just before it
unfoldable pub term : ℕ → List ℕ → List ℕ
term i w = cond (i % 4 == 0) (xors (sub_word (rot_word w)) (rcon (i / 4))) w

-- word i of the schedule, from the words before it
unfoldable pub next_word : List (List ℕ) → ℕ → List ℕ
next_word ws i = xors (slice_index_or ws (i - 4) []) (term i (slice_index_or ws (i - 1) []))

-- the first 4 + n words of the schedule
unfoldable pub schedule : List ℕ → ℕ → List (List ℕ)
schedule key zero = take 4 key ∷ take 4 (drop 4 key) ∷ take 4 (drop 8 key) ∷ take 4 (drop 12 key) ∷ []
schedule key (suc n) = schedule key n ++ (next_word (schedule key n) (4 + n) ∷ [])

unfoldable pub key_expansion : List ℕ → List (List ℕ)
key_expansion key = schedule key 40

-- the 16 bytes of four words of the schedule, from a place on
unfoldable pub four_words : List (List ℕ) → ℕ → List ℕ
four_words ws i = slice_index_or ws i [] ++ (slice_index_or ws (i + 1) [] ++ (slice_index_or ws (i + 2) [] ++ slice_index_or ws (i + 3) []))

-- the round key r, of the words of an expansion
unfoldable pub round_key : List (List ℕ) → ℕ → List ℕ
round_key ws r = four_words ws (4 * r)
