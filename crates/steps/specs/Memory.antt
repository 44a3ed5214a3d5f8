-- The bytes that a value of a type takes in memory. Assumes nothing.
use Rattle.std.specs.Prelude.{ℕ}
use prog.Memory.{size}
use Rattle.std.specs.Borrow.{RattleType}
use denote.Param.{layout}

abbrev pub memory_of : RattleType → ℕ
memory_of R = size (layout R)
