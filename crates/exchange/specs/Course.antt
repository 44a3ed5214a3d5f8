-- The calls of a whole settlement, and what comes of each. Assumes nothing.
use Rattle.std.specs.Prelude.{ℕ, ◌+◌, ◌*◌, ◌-◌, cond, ◌==◌, nat_lt, List, slice_index}
use Rattle.labels.specs.Kind.{Kind}
use Rattle.hashes.specs.Count.{counted}
use Rattle.circuit.specs.Words.{sum_below}
use Rattle.circuit.specs.Parts.{Parts}
use Rattle.circuit.specs.Gates.{form_of, output_of}
use Rattle.circuit.specs.Material.{gate_bits, gate_bytes}
use Rattle.circuit.specs.declared.sizes.Sizes.{Sizes}
use Rattle.plain.specs.Plain.{bit_in, plain_bit}
use Rattle.steps.specs.Gate.{garble_calls, evaluate_calls}
use Rattle.steps.specs.Whole.{input_label}
use Rattle.settlement.specs.declared.call.Call.{Call}
use Rattle.settlement.specs.declared.call.Call.TheVariants.{Garble, Encode, Deliver, Evaluate, Colours, Decode, Certify}
use Rattle.settlement.specs.declared.line.Line.{Line}
use Rattle.settlement.specs.declared.line.Answer.TheVariants.{Garbled, Encoded, Delivered, Evaluated, Coloured, Decoded, Certified}

module _ (s : Sizes) where
  -- Every input is encoded, every input delivered, every gate garbled, every gate evaluated.
  -- Then the colours are shown, the outputs decoded, and every output certified.
  abbrev pub calls_in : ℕ
  calls_in = 2 * s.inputs + 2 * s.gates + 2 + s.outputs

  -- by what call k does, and to which input, gate or output
  unfoldable pub by_turn : {X : Type 0} → ℕ → (ℕ → X) → (ℕ → X) → (ℕ → X) → (ℕ → X) → X → X → (ℕ → X) → X
  by_turn k encode deliver garble evaluate colours decode certify =
      cond (nat_lt k s.inputs) (encode k)
      (cond (nat_lt k (2 * s.inputs)) (deliver (k - s.inputs))
      (cond (nat_lt k (2 * s.inputs + s.gates)) (garble (k - 2 * s.inputs))
      (cond (nat_lt k (2 * s.inputs + 2 * s.gates)) (evaluate (k - (2 * s.inputs + s.gates)))
      (cond (k == 2 * s.inputs + 2 * s.gates) colours
      (cond (k == 2 * s.inputs + 2 * s.gates + 1) decode (certify (k - (2 * s.inputs + 2 * s.gates + 2))))))))

  -- call k, with material memory of so many bytes
  abbrev pub course : ℕ → List ℕ → ℕ → Call
  course material bits k =
      by_turn k (λ i. Encode i (slice_index bits i)) (λ i. Deliver i) (λ g. Garble 256 material) (λ g. Evaluate 256) (Colours s.outputs) (Decode s.outputs) (λ o. Certify o)

-- The line of call k: the label of the input's bit, the gate's bits and bytes, or the output's plain bit; and both counts.
module _ {L : Type 0} (K : Kind L) (F : L → ℕ → L) (seed : L) (c : Parts) (bits : List ℕ) where
  abbrev pub bits_of_gate : ℕ → ℕ
  bits_of_gate g = gate_bits (8 * K.width) (form_of c g)

  abbrev pub bytes_of_gate : ℕ → ℕ
  bytes_of_gate g = gate_bytes (8 * K.width) (form_of c g)

  -- the gates that are garbled once call k is made, and those that are evaluated
  abbrev pub garbled_by : ℕ → ℕ
  garbled_by k = by_turn c.sizes k (λ i. 0) (λ i. 0) (λ g. g + 1) (λ g. c.sizes.gates) c.sizes.gates c.sizes.gates (λ o. c.sizes.gates)

  abbrev pub evaluated_by : ℕ → ℕ
  evaluated_by k = by_turn c.sizes k (λ i. 0) (λ i. 0) (λ g. 0) (λ g. g + 1) c.sizes.gates c.sizes.gates (λ o. c.sizes.gates)

  abbrev pub course_line : ℕ → Line L
  course_line k = record {
    answer = by_turn c.sizes k (λ i. Encoded (input_label K F seed c (bit_in bits) i)) (λ i. Delivered) (λ g. Garbled (bits_of_gate g) (bytes_of_gate g)) (λ g. Evaluated (bytes_of_gate g)) Coloured Decoded (λ o. Certified (plain_bit c (bit_in bits) (output_of c o)));
    garbler_count = counted 0 (1 + c.sizes.inputs + sum_below (garble_calls c) (garbled_by k));
    evaluator_count = counted 0 (sum_below (evaluate_calls c) (evaluated_by k));
  }
