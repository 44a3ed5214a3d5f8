-- A column as the sum of four shares, one from each row's byte: a mixed column, and one of the last round. Assumes nothing.
use Rattle.std.specs.Prelude.{ℕ, ◌-◌, List, [], ◌∷◌, ◌++◌, take, drop}
use Rattle.aes.specs.Field.{times}

-- the share of the byte in row 0; each row below has it turned down by one
unfoldable pub top_share : ℕ → List ℕ
top_share s = times 2 s ∷ s ∷ s ∷ times 3 s ∷ []

unfoldable pub share : ℕ → ℕ → List ℕ
share r s = drop (4 - r) (top_share s) ++ take (4 - r) (top_share s)

-- in the last round, the byte alone in its row
unfoldable pub alone : ℕ → ℕ → List ℕ
alone r s = drop (4 - r) (s ∷ 0 ∷ 0 ∷ 0 ∷ []) ++ take (4 - r) (s ∷ 0 ∷ 0 ∷ 0 ∷ [])
