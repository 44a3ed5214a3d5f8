-- What a stretch of code leaves of a hash: its function, and n more calls. Assumes nothing.
use Rattle.std.specs.Prelude.{◌≡◌, ℕ}
use Rattle.hashes.specs.Count.{counted}

pub record Ran {L : Type 0} (F F' : L → ℕ → L) (c c' n : ℕ) : Type 0 where
  pub kept : F' ≡ F
  pub count : c' ≡ counted c n
