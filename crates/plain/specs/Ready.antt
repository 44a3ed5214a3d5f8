-- A circuit of the code that a plain evaluation may begin with. Assumes nothing.
use Rattle.std.specs.Prelude.{◌≡◌, ℕ, ◌≤◌, List, length, None}
use Rattle.circuit.specs.Lent.{parts_in}
use Rattle.circuit.specs.Passed.{Passed}
use Rattle.circuit.specs.declared.passed.Circuit.{Circuit}
use Rattle.plain.specs.Plain.{plain_refusal}

-- nothing stands against it: the circuit of these bytes passed, and the bits and the memories are as long as it asks
pub record Ready (bytes bits : List ℕ) (wires outputs : ℕ) (c : Circuit) : Type 0 where
  pub accepted : plain_refusal bytes bits wires outputs ≡ None
  pub passed : Passed bytes (parts_in c.arrays) c.wires
  pub room : c.wires ≤ wires
  pub bits_long : length bits ≡ c.arrays.sizes.inputs
  pub outputs_long : outputs ≡ c.arrays.sizes.outputs
