-- The five sizes that a circuit begins with. Assumes nothing.
use Rattle.std.specs.Prelude.{ℕ, ◌+◌, ◌*◌, Bool, ◌&&◌, List, nat_le}
use Rattle.labels.specs.Words.{word_at}
use Rattle.circuit.specs.declared.sizes.Sizes.{Sizes}

abbrev pub sizes_of : List ℕ → Sizes
sizes_of bytes = record {
  inputs = word_at bytes 0;
  gates = word_at bytes 1;
  outputs = word_at bytes 2;
  operands = word_at bytes 3;
  rows = word_at bytes 4;
}

-- each size is within its limits
abbrev pub within : Sizes → Bool
within s =
    (nat_le 1 s.inputs && nat_le s.inputs 256)
    && (nat_le s.gates 512
    && ((nat_le 1 s.outputs && nat_le s.outputs 256)
    && (nat_le s.operands 4096
    && nat_le s.rows 4096)))

-- the words of a circuit: five sizes, a form and a place for each gate, operands, rows and outputs
abbrev pub words_in : Sizes → ℕ
words_in s = 5 + 2 * s.gates + s.operands + s.rows + s.outputs
