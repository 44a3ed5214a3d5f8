-- Every wire of a circuit on labels, from a function F and a seed: zero labels, material, and the labels of given input bits. Assumes nothing.
use Rattle.std.specs.Prelude.{ℕ, zero, suc, Bool, List, [], ◌++◌}
use Rattle.labels.specs.Kind.{Kind, times}
use Rattle.hashes.specs.Draws.{offset, input_zero}
use Rattle.wires.specs.Wires.{wire_after}
use Rattle.circuit.specs.Parts.{Parts}
use Rattle.circuit.specs.Gates.{made_before}
use Rattle.labels.specs.Lists.{places}
use Rattle.steps.specs.Gate.{new_zeros, gate_material, new_labels}

module _ {L : Type 0} (K : Kind L) (F : L → ℕ → L) (seed : L) (c : Parts) where
  -- new wire j of gate g, from the zero labels on the wires before it
  abbrev pub zero_rule : ℕ → (ℕ → L) → ℕ → L
  zero_rule g v j = places K (new_zeros c g K v F seed (offset F seed K)) j

  -- the zero labels once the gates below g are garbled
  abbrev pub zeros_after : ℕ → ℕ → L
  zeros_after g w = wire_after (made_before c) zero_rule (input_zero F seed) g w

  -- the zero label of wire w
  unfoldable pub zero_label : ℕ → L
  zero_label w = zeros_after c.sizes.gates w

  -- the material of gate g, and of the gates below g one after another
  abbrev pub material_at : ℕ → List ℕ
  material_at g = gate_material c g K zero_label F seed (offset F seed K)

  unfoldable pub material_before : ℕ → List ℕ
  material_before zero = []
  material_before (suc g) = material_before g ++ material_at g

  -- the labels of input bits x: an input's zero label with the offset where its bit is 1, and then what the evaluator makes of them
  module _ (x : ℕ → Bool) where
    abbrev pub input_label : ℕ → L
    input_label i = K.xor (zero_label i) (times K (x i) (offset F seed K))

    abbrev pub label_rule : ℕ → (ℕ → L) → ℕ → L
    label_rule g v j = places K (new_labels c g K v F (material_at g)) j

    abbrev pub labels_after : ℕ → ℕ → L
    labels_after g w = wire_after (made_before c) label_rule input_label g w

    unfoldable pub label : ℕ → L
    label w = labels_after c.sizes.gates w
