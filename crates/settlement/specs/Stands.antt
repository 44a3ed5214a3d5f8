-- Which calls stand, and the first refusal of one that does: those of the parties' calls. Assumes nothing.
use Rattle.std.specs.Prelude.{ℕ, Bool, true, false, ◌||◌, List, [], length, take, Some, None, Option, cond, nat_le, nat_lt}
use Rattle.labels.specs.Kind.{Kind}
use Rattle.circuit.specs.Parts.{parts_of}
use Rattle.circuit.specs.Gates.{output_of}
use Rattle.circuit.specs.declared.refusal.Refusal.{Refusal}
use Rattle.labels.specs.Lists.{places}
use Rattle.memory.specs.Copy.{open_copy}
use Rattle.parties.specs.Marks.{is_marked}
use Rattle.parties.specs.Refusing.{garble_refusal, encode_refusal, deliver_refusal, evaluate_refusal, colours_refusal, decode_refusal, certify_refusal}
use Rattle.settlement.specs.State.{State}
use Rattle.settlement.specs.declared.call.Call.{Call}
use Rattle.settlement.specs.declared.call.Call.TheVariants.{Garble, Encode, Deliver, Evaluate, Colours, Decode, Certify}

abbrev pub is_shown : Option ℕ → Bool
is_shown (Some n) = true
is_shown None = false

-- the colours of the last accepted colours call
abbrev pub colours_by : Option ℕ → List ℕ → List ℕ
colours_by (Some n) colours = take n colours
colours_by None colours = []

module _ {L : Type 0} (s : State L) where
  -- deliver only after an accepted encode of its input, or with a number too large; decode only after an accepted colours; certify only after an accepted decode
  abbrev pub stands : Call → Bool
  stands (Garble scratch material) = true
  stands (Encode input bit) = true
  stands (Deliver input) = nat_le s.garbler.sizes.inputs input || is_marked s.garbler.marks input
  stands (Evaluate scratch) = true
  stands (Colours n) = true
  stands (Decode n) = is_shown s.shown
  stands (Certify output) = s.decoded

  -- the label that encode answered for an input, or the zero label where the number is too large
  abbrev pub sent_label : Kind L → ℕ → L
  sent_label K input = cond (nat_lt input s.garbler.sizes.inputs) (places K s.sent input) K.zero

  -- the evaluator's label of an output, or the zero label where the number is too large
  abbrev pub output_label : Kind L → List ℕ → ℕ → L
  output_label K bytes output =
      cond (nat_lt output (parts_of (open_copy bytes)).sizes.outputs)
      (places K s.labels (output_of (parts_of (open_copy bytes)) output))
      K.zero

  -- Each call is lent the first so many of a memory, or all where there are fewer.
  -- The evaluator holds the open copy, and has of the material what garble has written.
  abbrev pub refusal : Kind L → List ℕ → Call → Option Refusal
  refusal K bytes (Garble scratch material) =
      garble_refusal s.garbler bytes K (length s.zeros) (length (take scratch s.scratch)) (length (take material s.material))
  refusal K bytes (Encode input bit) = encode_refusal s.garbler bytes (length s.zeros) input bit
  refusal K bytes (Deliver input) = deliver_refusal s.evaluator (open_copy bytes) (length s.labels) input
  refusal K bytes (Evaluate scratch) =
      evaluate_refusal s.evaluator (open_copy bytes) K (length s.labels) (length (take scratch s.scratch)) (length (take s.garbler.bytes s.material))
  refusal K bytes (Colours n) = colours_refusal s.garbler bytes (length s.zeros) (length (take n s.colours))
  refusal K bytes (Decode n) =
      decode_refusal s.evaluator (open_copy bytes) (length s.labels) (colours_by s.shown s.colours) (length (take n s.outputs))
  refusal K bytes (Certify output) = certify_refusal s.garbler bytes K s.offset s.zeros output (output_label K bytes output)
