-- The message schedule of one block of 64 bytes (FIPS 180-4, 6.2.2, step 1). Assumes nothing.
use Rattle.std.specs.Prelude.{ℕ, zero, suc, ◌-◌, List, [], ◌∷◌, ◌++◌, map, length, slice_index}
use Rattle.std.specs.List.{range_with_len}
use Rattle.sha256.specs.Words.{add, word_at}
use Rattle.sha256.specs.Functions.{σ0, σ1}

-- the block's 16 words
abbrev pub words : List ℕ → List ℕ
words block = map (word_at block) (range_with_len 0 16)

-- word t of the schedule, for t from 16 on: σ1 W(t−2) + W(t−7) + σ0 W(t−15) + W(t−16)
abbrev pub word : List ℕ → ℕ → ℕ
word ws t = add (add (add (σ1 (slice_index ws (t - 2))) (slice_index ws (t - 7))) (σ0 (slice_index ws (t - 15)))) (slice_index ws (t - 16))

-- n words more
unfoldable pub extended : List ℕ → ℕ → List ℕ
extended ws zero = ws
extended ws (suc n) = extended (ws ++ (word ws (length ws) ∷ [])) n

-- the 64 words
unfoldable pub schedule : List ℕ → List ℕ
schedule block = extended (words block) 48
