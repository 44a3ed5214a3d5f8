-- The open copy of a circuit: the same bytes with every row word zero. Assumes nothing.
use Rattle.std.specs.Prelude.{ℕ, ◌+◌, ◌*◌, List, [], ◌∷◌, ◌++◌, length, take, drop, replicate, Option, nat_lt}
use Rattle.circuit.specs.Header.{sizes_of}
use Rattle.circuit.specs.Check.{circuit_refusal}
use Rattle.circuit.specs.Refusals.{first_of, or_else}
use Rattle.circuit.specs.declared.refusal.Refusal.{Refusal}
use Rattle.circuit.specs.declared.refusal.Refusal.TheVariants.{Memory}

module _ (bytes : List ℕ) where
  -- where the rows begin and where they end
  abbrev pub rows_begin : ℕ
  rows_begin = 2 * (5 + 2 * (sizes_of bytes).gates + (sizes_of bytes).operands)

  abbrev pub rows_end : ℕ
  rows_end = rows_begin + 2 * (sizes_of bytes).rows

  unfoldable pub open_copy : List ℕ
  open_copy = take rows_begin bytes ++ (replicate (2 * (sizes_of bytes).rows) 0 ++ drop rows_end bytes)

  -- the first refusal of a copy into so many bytes
  abbrev pub copy_refusal : ℕ → Option Refusal
  copy_refusal room = or_else (circuit_refusal bytes) (first_of ((nat_lt room (length bytes), Memory) ∷ []))
