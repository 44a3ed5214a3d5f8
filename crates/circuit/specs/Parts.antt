-- The arrays of a circuit, each as the bytes of its words. Assumes nothing.
use Rattle.std.specs.Prelude.{◌≡◌, ℕ, ◌+◌, ◌*◌, List, length}
use Rattle.circuit.specs.Words.{part}
use Rattle.circuit.specs.Header.{sizes_of}
use Rattle.circuit.specs.declared.sizes.Sizes.{Sizes}

pub record Parts : Type 0 where
  pub sizes : Sizes
  pub forms : List ℕ
  pub places : List ℕ
  pub operands : List ℕ
  pub rows : List ℕ
  pub outputs : List ℕ

-- each array is as long as its size says
pub record Whole (c : Parts) : Type 0 where
  pub forms : length c.forms ≡ 2 * c.sizes.gates
  pub places : length c.places ≡ 2 * c.sizes.gates
  pub operands : length c.operands ≡ 2 * c.sizes.operands
  pub rows : length c.rows ≡ 2 * c.sizes.rows
  pub outputs : length c.outputs ≡ 2 * c.sizes.outputs

-- the arrays stand behind the sizes, one after another
abbrev pub parts_at : Sizes → List ℕ → Parts
parts_at s bytes = record {
  sizes = s;
  forms = part 5 s.gates bytes;
  places = part (5 + s.gates) s.gates bytes;
  operands = part (5 + 2 * s.gates) s.operands bytes;
  rows = part (5 + 2 * s.gates + s.operands) s.rows bytes;
  outputs = part (5 + 2 * s.gates + s.operands + s.rows) s.outputs bytes;
}

abbrev pub parts_of : List ℕ → Parts
parts_of bytes = parts_at (sizes_of bytes) bytes
