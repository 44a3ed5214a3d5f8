-- What the evaluator's accepted calls leave. Assumes nothing.
use Rattle.std.specs.Prelude.{◌≡◌, ℕ, ◌*◌, ◌≤◌, List, length, replicate}
use Rattle.labels.specs.Kind.{Kind}
use Rattle.wires.specs.Wires.{Grown, Filled}
use Rattle.circuit.specs.Parts.{Parts}
use Rattle.circuit.specs.Forms.{makes}
use Rattle.circuit.specs.Gates.{form_of, wires_in}
use Rattle.circuit.specs.Material.{gate_bytes}
use Rattle.gates.specs.Bytes.{bytes_at}
use Rattle.steps.specs.Gate.{new_labels}
use Rattle.labels.specs.Lists.{places}
use Rattle.parties.specs.declared.side.Side.{Side}
use Rattle.parties.specs.Side.{started, stepped}

module _ {L : Type 0} (K : Kind L) (c : Parts) where
  -- join: the record at the start, and zero on each wire up to the last
  pub record Joined (side : Side) (old new : List L) : Type 0 where
    pub side_is : side ≡ started c.sizes (wires_in c)
    pub room : wires_in c ≤ length old
    pub wires : Filled (wires_in c) (λ _. K.zero) old new

  -- evaluate, at the side's next gate, from the labels on the wires and the gate's bytes of the material
  pub record Stepped (F : L → ℕ → L) (s side : Side) (old new : List L) (material : List ℕ) (scratch cleared : List L) : Type 0 where
    pub side_is : side ≡ stepped s (makes (form_of c s.next)) (gate_bytes (8 * K.width) (form_of c s.next))
    pub wires : Grown s.made (makes (form_of c s.next)) (places K (new_labels c s.next K (places K old) F (bytes_at s.bytes (gate_bytes (8 * K.width) (form_of c s.next)) material))) old new
    pub scratch_is : cleared ≡ replicate (length scratch) K.zero
