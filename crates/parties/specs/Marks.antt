-- Inputs that are marked, and the lowest that is not. Assumes nothing.
use Rattle.std.specs.Prelude.{◌≡◌, ℕ, zero, suc, ◌<◌, Bool, true, false, ◌&&◌, List, slice_index_or}

-- an input is marked
abbrev pub is_marked : List Bool → ℕ → Bool
is_marked marks i = slice_index_or marks i false

-- each input below n is
abbrev pub all_marked : List Bool → ℕ → Bool
all_marked marks zero = true
all_marked marks (suc n) = is_marked marks n && all_marked marks n

-- i is the lowest input below n that is not
pub record Lowest (marks : List Bool) (n i : ℕ) : Type 0 where
  pub below : i < n
  pub unmarked : is_marked marks i ≡ false
  pub least : (k : ℕ) → k < i → is_marked marks k ≡ true
