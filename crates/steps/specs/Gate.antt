-- One gate of a circuit on labels: what the garbler and the evaluator make of what the wires carry. Assumes nothing.
use Rattle.std.specs.Prelude.{ℕ, ◌/◌, ◌^◌, List, [], ◌∷◌, ◌++◌, length}
use Rattle.labels.specs.Kind.{Kind}
use Rattle.labels.specs.Words.{word_at}
use Rattle.circuit.specs.Words.{part}
use Rattle.circuit.specs.Parts.{Parts}
use Rattle.circuit.specs.Forms.{fan_in, fan_out, reads, by_form}
use Rattle.circuit.specs.Gates.{form_of, operand_of, rows_from}
use Rattle.gates.specs.Bytes.{bytes_at}
use Rattle.gates.specs.Half.{garbled, joined}
use Rattle.tables.specs.Gate.{material_for, zeros_for, evaluated, garbler_calls, evaluator_calls}
use Rattle.labels.specs.Lists.{listed, places}

-- the label on the wire of operand j, and those of all operands, from the labels on the wires
abbrev pub label_on : {L : Type 0} → Kind L → List L → List ℕ → ℕ → L
label_on K wires operands j = places K wires (word_at operands j)

abbrev pub labels_on : {L : Type 0} → Kind L → List L → List ℕ → List L
labels_on K wires operands = listed (length operands / 2) (label_on K wires operands)

module _ (c : Parts) (g : ℕ) where
  -- the bytes of a table's rows
  abbrev pub rows_in : List ℕ
  rows_in = part (rows_from c g) (2 ^ fan_in (form_of c g)) c.rows

  -- hash calls of the garbler and of the evaluator
  unfoldable pub garble_calls : ℕ
  garble_calls = by_form (form_of c g) 0 4 (garbler_calls (fan_in (form_of c g)) (fan_out (form_of c g)))

  unfoldable pub evaluate_calls : ℕ
  evaluate_calls = by_form (form_of c g) 0 2 (evaluator_calls (fan_in (form_of c g)) (fan_out (form_of c g)))

  -- v is what the wires carry
  module _ {L : Type 0} (K : Kind L) (v : ℕ → L) where
    -- the labels on the wires that the gate reads
    abbrev pub operand_labels : List L
    operand_labels = listed (reads (form_of c g)) (λ i. v (operand_of c g i))

    module _ (F : L → ℕ → L) where
      -- the garbler's: AND's rows T and U and its zero label
      abbrev pub and_of : L → L × L × L
      and_of Δ = garbled K F g Δ (v (operand_of c g 0)) (v (operand_of c g 1))

      -- the zero labels of the gate's new wires
      unfoldable pub new_zeros : L → L → List L
      new_zeros seed Δ =
          by_form (form_of c g)
          (K.xor (v (operand_of c g 0)) (v (operand_of c g 1)) ∷ [])
          ((and_of Δ).2 ∷ [])
          (zeros_for K F g seed Δ operand_labels rows_in (fan_out (form_of c g)))

      -- its material
      unfoldable pub gate_material : L → L → List ℕ
      gate_material seed Δ =
          by_form (form_of c g)
          []
          (K.bytes (and_of Δ).0 ++ K.bytes (and_of Δ).1)
          (material_for K F g seed Δ operand_labels rows_in (fan_out (form_of c g)))

      -- the evaluator's labels of the new wires, from the gate's material; it takes no row word
      unfoldable pub new_labels : List ℕ → List L
      new_labels bytes =
          by_form (form_of c g)
          (K.xor (v (operand_of c g 0)) (v (operand_of c g 1)) ∷ [])
          (joined K F g (K.from (bytes_at 0 K.width bytes)) (K.from (bytes_at K.width K.width bytes)) (v (operand_of c g 0)) (v (operand_of c g 1)) ∷ [])
          (evaluated K F g (fan_in (form_of c g)) (fan_out (form_of c g)) bytes (places K operand_labels))
