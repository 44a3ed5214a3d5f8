-- What an accepted call answers and leaves. Assumes nothing.
use Rattle.std.specs.Prelude.{◌≡◌, ℕ, not, ◌*◌, List, ◌++◌, length, take, drop, replicate, Some, slice_set}
use Rattle.labels.specs.Kind.{Kind}
use Rattle.hashes.specs.Count.{counted}
use Rattle.wires.specs.Wires.{Grown}
use Rattle.circuit.specs.Parts.{parts_of}
use Rattle.circuit.specs.Forms.{makes}
use Rattle.circuit.specs.Gates.{form_of, output_of}
use Rattle.circuit.specs.Material.{gate_bits, gate_bytes}
use Rattle.gates.specs.Bytes.{laid, bytes_at}
use Rattle.steps.specs.Gate.{new_zeros, gate_material, new_labels, garble_calls, evaluate_calls}
use Rattle.labels.specs.Lists.{places}
use Rattle.memory.specs.Copy.{open_copy}
use Rattle.memory.specs.Outputs.{colours_of, decoded_of}
use Rattle.garbler.specs.Garbling.{encoded}
use Rattle.parties.specs.Side.{marked, stepped}
use Rattle.settlement.specs.State.{State, by_garble, by_encode, by_deliver, by_evaluate, by_colours, by_decode}
use Rattle.settlement.specs.Stands.{colours_by, sent_label, output_label}
use Rattle.settlement.specs.declared.call.Call.{Call}
use Rattle.settlement.specs.declared.call.Call.TheVariants.{Garble, Encode, Deliver, Evaluate, Colours, Decode, Certify}
use Rattle.settlement.specs.declared.line.Answer.{Answer}
use Rattle.settlement.specs.declared.line.Answer.TheVariants.{Garbled, Encoded, Delivered, Evaluated, Coloured, Decoded, Certified}

-- a is what the call answers, and t what s becomes
module _ {L : Type 0} (K : Kind L) (F : L → ℕ → L) (bytes : List ℕ) (s : State L) (a : Answer L) (t : State L) where
  -- garble: the next gate's zero labels on its wires, its material behind the bytes written so far, the lent scratch zero
  pub record Garbles (scratch material : ℕ) : Type 0 where
    pub answer : a ≡ Garbled (gate_bits (8 * K.width) (form_of (parts_of bytes) s.garbler.next)) (gate_bytes (8 * K.width) (form_of (parts_of bytes) s.garbler.next))
    pub wires : Grown s.garbler.made (makes (form_of (parts_of bytes) s.garbler.next)) (places K (new_zeros (parts_of bytes) s.garbler.next K (places K s.zeros) F s.seed s.offset)) s.zeros t.zeros
    pub leaves : t ≡ by_garble s
        (stepped s.garbler (makes (form_of (parts_of bytes) s.garbler.next)) (gate_bytes (8 * K.width) (form_of (parts_of bytes) s.garbler.next)))
        t.zeros
        (laid s.garbler.bytes (gate_material (parts_of bytes) s.garbler.next K (places K s.zeros) F s.seed s.offset) (take material s.material) ++ drop material s.material)
        (replicate (length (take scratch s.scratch)) K.zero ++ drop scratch s.scratch)
        (counted s.garbler_count (garble_calls (parts_of bytes) s.garbler.next))

  -- evaluate: the next gate's labels on its wires, from the material that is written, at the evaluator's own place in it
  pub record Evaluates (scratch : ℕ) : Type 0 where
    pub answer : a ≡ Evaluated (gate_bytes (8 * K.width) (form_of (parts_of (open_copy bytes)) s.evaluator.next))
    pub wires : Grown s.evaluator.made (makes (form_of (parts_of (open_copy bytes)) s.evaluator.next))
        (places K (new_labels (parts_of (open_copy bytes)) s.evaluator.next K (places K s.labels) F (bytes_at s.evaluator.bytes (gate_bytes (8 * K.width) (form_of (parts_of (open_copy bytes)) s.evaluator.next)) (take s.garbler.bytes s.material)))) s.labels t.labels
    pub leaves : t ≡ by_evaluate s
        (stepped s.evaluator (makes (form_of (parts_of (open_copy bytes)) s.evaluator.next)) (gate_bytes (8 * K.width) (form_of (parts_of (open_copy bytes)) s.evaluator.next)))
        t.labels
        (replicate (length (take scratch s.scratch)) K.zero ++ drop scratch s.scratch)
        (counted s.evaluator_count (evaluate_calls (parts_of (open_copy bytes)) s.evaluator.next))

module _ {L : Type 0} (K : Kind L) (bytes : List ℕ) (s : State L) (a : Answer L) (t : State L) where
  -- encode: the label is kept for deliver
  pub record Encodes (input bit : ℕ) : Type 0 where
    pub answer : a ≡ Encoded (encoded K s.offset s.zeros input bit)
    pub leaves : t ≡ by_encode s (marked s.garbler input) (slice_set s.sent input (encoded K s.offset s.zeros input bit))

  -- deliver: the label that encode answered
  pub record Delivers (input : ℕ) : Type 0 where
    pub answer : a ≡ Delivered
    pub leaves : t ≡ by_deliver s (marked s.evaluator input) (slice_set s.labels input (sent_label s K input))

  -- colours: those of the outputs' zero labels
  pub record Shows (n : ℕ) : Type 0 where
    pub answer : a ≡ Coloured
    pub leaves : t ≡ by_colours s
        (colours_of K s.zeros (parts_of bytes).outputs (length (take n s.colours)) ++ drop n s.colours)
        (Some (length (take n s.colours)))

  -- decode: the bits of the outputs, by the colours shown
  pub record Decodes (n : ℕ) : Type 0 where
    pub answer : a ≡ Decoded
    pub leaves : t ≡ by_decode s (decoded_of K s.labels (parts_of (open_copy bytes)).outputs (colours_by s.shown s.colours) (length (take n s.outputs)) ++ drop n s.outputs)

  -- certify: whether the evaluator's label of the output is another than its zero label
  pub record Certifies (output : ℕ) : Type 0 where
    pub answer : a ≡ Certified (not (K.same (output_label s K bytes output) (places K s.zeros (output_of (parts_of bytes) output))))
    pub leaves : t ≡ s

  -- F and E are the functions of the garbler's hash and of the evaluator's
  abbrev pub Accepted : (F E : L → ℕ → L) → Call → Type 0
  Accepted F E (Garble scratch material) = Garbles K F bytes s a t scratch material
  Accepted F E (Encode input bit) = Encodes input bit
  Accepted F E (Deliver input) = Delivers input
  Accepted F E (Evaluate scratch) = Evaluates K E bytes s a t scratch
  Accepted F E (Colours n) = Shows n
  Accepted F E (Decode n) = Decodes n
  Accepted F E (Certify output) = Certifies output
