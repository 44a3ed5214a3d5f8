-- What the padding is for (FIPS 180-4, 5.1.1). Assumes nothing.
use Rattle.std.specs.Prelude.{◌≡◌, ℕ, ◌+◌, ◌%◌, ◌≤◌, List, length}
use Rattle.sha256.specs.Padding.{zeros, padded}

pub record Filled (message : List ℕ) : Type 0 where
  -- a padded message is whole blocks
  pub whole : length (padded message) % 64 ≡ 0
  -- the length field is the last 8 bytes of a block, and no fewer zeros bring it there
  pub room : (length message + 1 + zeros (length message)) % 64 ≡ 56
  pub least : (k : ℕ) → (length message + 1 + k) % 64 ≡ 56 → zeros (length message) ≤ k

abbrev pub PaddingFills : Type 0
PaddingFills = (message : List ℕ) → Filled message
