-- The tweak of point k in gate g. Assumes nothing.
use Rattle.std.specs.Prelude.{ℕ, ◌+◌, ◌*◌}

abbrev pub tweak : ℕ → ℕ → ℕ
tweak g k = 1024 * g + k
