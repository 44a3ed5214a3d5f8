-- A hash that answers the same label to every call. Assumes nothing.
use Rattle.std.specs.Prelude.{ℕ}
use Rattle.labels.specs.Longs.{of_words}
use Rattle.labels.specs.declared.long.Long.{Long}

abbrev pub constant_hash : Long → ℕ → Long
constant_hash x t = of_words 6 9
