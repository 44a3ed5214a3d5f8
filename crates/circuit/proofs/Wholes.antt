-- The arrays of the code are as long as their sizes say. Assumes nothing.
use Rattle.circuit.specs.Parts.{Whole}
use Rattle.circuit.specs.Lent.{parts_in}
use Rattle.circuit.specs.declared.arrays.Arrays.{Arrays}

pub whole_in : (a : Arrays) → Whole (parts_in a)
whole_in a = record {
  forms = a.forms_long;
  places = a.places_long;
  operands = a.operands_long;
  rows = a.rows_long;
  outputs = a.outputs_long;
}
