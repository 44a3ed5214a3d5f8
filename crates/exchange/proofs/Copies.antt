-- The open copy has the circuit's sizes, wires and material. Assumes nothing.
use Rattle.std.proofs.Common.{◌≡◌, ℕ, ◌*◌, List, None, ap, ◌∙◌}
use Rattle.labels.specs.Kind.{Kind}
use Rattle.circuit.specs.Parts.{Parts, parts_of}
use Rattle.circuit.specs.Gates.{form_of, wires_in}
use Rattle.circuit.specs.Material.{gate_bytes}
use Rattle.circuit.specs.Check.{circuit_refusal, bytes_in}
use Rattle.memory.specs.Copy.{open_copy}
use Rattle.steps.specs.Gate.{evaluate_calls}
use Rattle.laws.proofs.Opening.{parts_open, calls_open}

module _ (bytes : List ℕ) (passes : circuit_refusal bytes ≡ None) where
  abbrev copied : Parts
  copied = parts_of (open_copy bytes)

  pub inputs_copy : copied.sizes.inputs ≡ (parts_of bytes).sizes.inputs
  inputs_copy = ap (λ (q : Parts). q.sizes.inputs) (parts_open bytes passes)

  pub gates_copy : copied.sizes.gates ≡ (parts_of bytes).sizes.gates
  gates_copy = ap (λ (q : Parts). q.sizes.gates) (parts_open bytes passes)

  pub outputs_copy : copied.sizes.outputs ≡ (parts_of bytes).sizes.outputs
  outputs_copy = ap (λ (q : Parts). q.sizes.outputs) (parts_open bytes passes)

  pub wires_copy : wires_in copied ≡ wires_in (parts_of bytes)
  wires_copy = ap wires_in (parts_open bytes passes)

  pub calls_copy : (g : ℕ) → evaluate_calls copied g ≡ evaluate_calls (parts_of bytes) g
  calls_copy g = ap (λ (q : Parts). evaluate_calls q g) (parts_open bytes passes) ∙ calls_open (parts_of bytes) g

  module _ {L : Type 0} (K : Kind L) where
    pub bytes_copy : (g : ℕ) → bytes_in K copied g ≡ bytes_in K (parts_of bytes) g
    bytes_copy g = ap (λ (q : Parts). bytes_in K q g) (parts_open bytes passes)

    pub gate_bytes_copy : (g : ℕ) → gate_bytes (8 * K.width) (form_of copied g) ≡ gate_bytes (8 * K.width) (form_of (parts_of bytes) g)
    gate_bytes_copy g = ap (λ (q : Parts). gate_bytes (8 * K.width) (form_of q g)) (parts_open bytes passes)
