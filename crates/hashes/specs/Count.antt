-- A hash's count in 64 bits, which stays at the largest value once there. Assumes nothing.
use Rattle.std.specs.Prelude.{ℕ, ◌+◌, ◌-◌, ◌*◌, ◌^◌, min}

-- what one call adds
abbrev pub per_call : ℕ
per_call = 1

-- the count after n more calls
abbrev pub counted : ℕ → ℕ → ℕ
counted count n = min (count + n * per_call) (2 ^ 64 - 1)
