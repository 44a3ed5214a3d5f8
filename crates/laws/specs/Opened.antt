-- The open copy of a circuit is the same circuit with rows that are all zero. Assumes nothing.
use Rattle.std.specs.Prelude.{◌≡◌, ℕ, ◌*◌, List, replicate, None}
use Rattle.circuit.specs.Check.{circuit_refusal}
use Rattle.circuit.specs.Parts.{Parts, parts_of}
use Rattle.memory.specs.Copy.{open_copy}

abbrev pub opened : Parts → Parts
opened c = record {
  sizes = c.sizes;
  forms = c.forms;
  places = c.places;
  operands = c.operands;
  rows = replicate (2 * c.sizes.rows) 0;
  outputs = c.outputs;
}

-- it passes where the circuit does, and has its parts but for the rows
pub record Opens (bytes : List ℕ) : Type 0 where
  pub passes : circuit_refusal (open_copy bytes) ≡ None
  pub parts : parts_of (open_copy bytes) ≡ opened (parts_of bytes)

abbrev pub CopiesOpen : Type 0
CopiesOpen = (bytes : List ℕ) → circuit_refusal bytes ≡ None → Opens bytes
