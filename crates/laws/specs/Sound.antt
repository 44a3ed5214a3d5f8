-- Labels stand for bits: through one gate, and over a whole circuit. Assumes nothing.
use Rattle.std.specs.Prelude.{◌≡◌, ℕ, ◌<◌, Bool, true, List, None}
use Rattle.labels.specs.Kind.{Kind, times}
use Rattle.hashes.specs.Draws.{offset}
use Rattle.circuit.specs.Check.{circuit_refusal}
use Rattle.circuit.specs.Forms.{makes}
use Rattle.circuit.specs.Parts.{Parts, parts_of}
use Rattle.circuit.specs.Gates.{form_of, operand_of, made_before, wires_in}
use Rattle.labels.specs.Lists.{places}
use Rattle.plain.specs.Plain.{gate_bit, plain_bit}
use Rattle.steps.specs.Gate.{new_zeros, gate_material, new_labels}
use Rattle.steps.specs.Whole.{zero_label, label}

module _ {L : Type 0} (K : Kind L) where
  -- u is the label of the bit x on a wire with the zero label z: the zero label, with the offset Δ exactly when the bit is 1
  abbrev pub LabelOf : L → L → Bool → L → Type 0
  LabelOf Δ z x u = u ≡ K.xor z (times K x Δ)

  -- One gate of a circuit that passes. Where each wire before it carries the label u of its bit x, the evaluator's labels
  -- of the new wires are those of the gate's bits, if it is handed the garbler's material for the zero labels z.
  abbrev pub GateSound : Type 0
  GateSound =
      (bytes : List ℕ) → circuit_refusal bytes ≡ None
      → let c : Parts = parts_of bytes in
      (g : ℕ) → g < c.sizes.gates
      → (F : L → ℕ → L) (seed Δ : L) → K.colour Δ ≡ true
      → (z u : ℕ → L) (x : ℕ → Bool) → ((w : ℕ) → w < made_before c g → LabelOf Δ (z w) (x w) (u w))
      → (j : ℕ) → j < makes (form_of c g)
      → LabelOf Δ (places K (new_zeros c g K z F seed Δ) j) (gate_bit c g (λ i. x (operand_of c g i)) j) (places K (new_labels c g K u F (gate_material c g K z F seed Δ)) j)

  -- A whole circuit that passes: for every seed whose offset has colour 1 and all input bits x, the label on each wire
  -- is the label of the bit that plain evaluation has there.
  abbrev pub CircuitSound : Type 0
  CircuitSound =
      (bytes : List ℕ) → circuit_refusal bytes ≡ None
      → let c : Parts = parts_of bytes in
      (F : L → ℕ → L) (seed : L) → K.colour (offset F seed K) ≡ true
      → (x : ℕ → Bool) (w : ℕ) → w < wires_in c
      → LabelOf (offset F seed K) (zero_label K F seed c w) (plain_bit c x w) (label K F seed c x w)
