-- What is claimed of a settlement after each of its calls. Assumes nothing.
use Rattle.std.specs.Prelude.{◌≡◌, ◌≢◌, ℕ, zero, suc, ◌+◌, ◌<◌, ◌&&◌, Bool, true, false, cond, nat_lt, take, Some, ◌==◌, slice_index}
use Rattle.labels.specs.Kind.{Kind, times}
use Rattle.labels.specs.Numbers.{digit}
use Rattle.hashes.specs.Count.{counted}
use Rattle.hashes.specs.Draws.{offset}
use Rattle.circuit.specs.Parts.{Parts, parts_of}
use Rattle.circuit.specs.Gates.{output_of, wires_in}
use Rattle.plain.specs.Plain.{plain_bit}
use Rattle.steps.specs.Gate.{garble_calls, evaluate_calls}
use Rattle.steps.specs.Whole.{zero_label, material_before}
use Rattle.labels.specs.Lists.{places}
use Rattle.parties.specs.Marks.{is_marked}
use Rattle.circuit.specs.declared.refusal.Refusal.TheVariants.{Foreign}
use Rattle.settlement.specs.State.{State}
use Rattle.settlement.specs.Alike.{Alike, SameLine}
use Rattle.settlement.specs.Lines.{call_at, line_at, is_accepted}
use Rattle.settlement.specs.Runs.{Settlement, Ran}
use Rattle.settlement.specs.declared.call.Call.{Call}
use Rattle.settlement.specs.declared.call.Call.TheVariants.{Garble, Encode, Deliver, Evaluate, Colours, Decode, Certify}
use Rattle.settlement.specs.declared.line.Answer.TheVariants.{Refused, Encoded, Decoded, Certified}

-- an accepted encode gives its input its bit
abbrev pub noted : Call → Bool → (ℕ → Bool) → ℕ → Bool
noted (Garble scratch material) accepted x i = x i
noted (Encode input bit) accepted x i = cond (accepted && (i == input)) (bit == 1) (x i)
noted (Deliver input) accepted x i = x i
noted (Evaluate scratch) accepted x i = x i
noted (Colours n) accepted x i = x i
noted (Decode n) accepted x i = x i
noted (Certify output) accepted x i = x i

-- hash calls of an accepted call, at the next gate of either side
abbrev pub garbler_cost : Parts → Call → ℕ → ℕ
garbler_cost c (Garble scratch material) next = garble_calls c next
garbler_cost c (Encode input bit) next = 0
garbler_cost c (Deliver input) next = 0
garbler_cost c (Evaluate scratch) next = 0
garbler_cost c (Colours n) next = 0
garbler_cost c (Decode n) next = 0
garbler_cost c (Certify output) next = 0

abbrev pub evaluator_cost : Parts → Call → ℕ → ℕ
evaluator_cost c (Garble scratch material) next = 0
evaluator_cost c (Encode input bit) next = 0
evaluator_cost c (Deliver input) next = 0
evaluator_cost c (Evaluate scratch) next = evaluate_calls c next
evaluator_cost c (Colours n) next = 0
evaluator_cost c (Decode n) next = 0
evaluator_cost c (Certify output) next = 0

module _ {L : Type 0} (r : Settlement L) where
  abbrev pub accepted_at : ℕ → Bool
  accepted_at k = is_accepted (line_at r.lines k).answer

  -- an input's plain bit after k calls: that of its accepted encode, 0 before one
  abbrev pub given : ℕ → ℕ → Bool
  given zero i = false
  given (suc k) i = noted (call_at r.calls k) (accepted_at k) (given k) i

  -- the plain bit of wire w after k calls
  abbrev pub bit_of : ℕ → ℕ → Bool
  bit_of k w = plain_bit (parts_of r.circuit) (given k) w

  -- the hash calls of the accepted calls among the first k
  abbrev pub garbler_sum : ℕ → ℕ
  garbler_sum zero = 1 + (parts_of r.circuit).sizes.inputs
  garbler_sum (suc k) = garbler_sum k + cond (accepted_at k) (garbler_cost (parts_of r.circuit) (call_at r.calls k) (r.at k).garbler.next) 0

  abbrev pub evaluator_sum : ℕ → ℕ
  evaluator_sum zero = 0
  evaluator_sum (suc k) = evaluator_sum k + cond (accepted_at k) (evaluator_cost (parts_of r.circuit) (call_at r.calls k) (r.at k).evaluator.next) 0

-- wire w is made: by open and garble, and by deliver and evaluate
abbrev pub garbler_made : {L : Type 0} → State L → ℕ → Bool
garbler_made s w = nat_lt w s.garbler.made

abbrev pub evaluator_made : {L : Type 0} → State L → ℕ → Bool
evaluator_made s w = cond (nat_lt w s.evaluator.sizes.inputs) (is_marked s.evaluator.marks w) (nat_lt w s.evaluator.made)

module _ {L : Type 0} (K : Kind L) (r : Settlement L) where
  -- the zero label of wire w by the rules
  abbrev pub ideal : ℕ → L
  ideal = zero_label K r.garbler_hash (r.at 0).seed (parts_of r.circuit)

  -- the label of bit b on wire w
  abbrev pub label_of : ℕ → Bool → L
  label_of w b = K.xor (ideal w) (times K b (r.at 0).offset)

  -- after k calls
  pub record Claims (k : ℕ) : Type 0 where
    -- on every wire made on both sides the evaluator's label is the garbler's zero label, with the offset ⊕ed in exactly when the wire's plain bit is 1
    pub labels : (w : ℕ) → w < wires_in (parts_of r.circuit) → garbler_made (r.at k) w ≡ true → evaluator_made (r.at k) w ≡ true
        → places K (r.at k).labels w ≡ K.xor (places K (r.at k).zeros w) (times K (bit_of r k w) (r.at k).offset)
    -- the offset, the garbler's zero labels and the material are those of the rules
    pub offset_is : (r.at k).offset ≡ offset r.garbler_hash (r.at 0).seed K
    pub zeros : (w : ℕ) → garbler_made (r.at k) w ≡ true → places K (r.at k).zeros w ≡ ideal w
    pub material : take (r.at k).garbler.bytes (r.at k).material ≡ material_before K r.garbler_hash (r.at 0).seed (parts_of r.circuit) (r.at k).garbler.next
    -- each count is the one its hash came with and the rules' sum over accepted calls
    pub garbler_count : (r.at k).garbler_count ≡ counted r.garbler_came (garbler_sum r k)
    pub evaluator_count : (r.at k).evaluator_count ≡ counted r.evaluator_came (evaluator_sum r k)

  -- of line k, and of what call k leaves
  pub record LineClaims (k : ℕ) : Type 0 where
    -- encode answers the label of its bit
    pub encodes : (input bit : ℕ) (l : L) → call_at r.calls k ≡ Encode input bit → (line_at r.lines k).answer ≡ Encoded l → l ≡ label_of input (bit == 1)
    -- every colour shown is that of its output's zero label
    pub colours : (n : ℕ) → (r.at (suc k)).shown ≡ Some n → (o : ℕ) → o < (parts_of r.circuit).sizes.outputs
        → slice_index (r.at (suc k)).colours o ≡ digit (K.colour (ideal (output_of (parts_of r.circuit) o)))
    -- every bit decoded is the plain bit of its output
    pub decodes : (line_at r.lines k).answer ≡ Decoded → (o : ℕ) → o < (parts_of r.circuit).sizes.outputs
        → slice_index (r.at (suc k)).outputs o ≡ digit (bit_of r (suc k) (output_of (parts_of r.circuit) o))
    -- every bit certified is the plain bit of its output
    pub certifies : (output : ℕ) (bit : Bool) → call_at r.calls k ≡ Certify output → (line_at r.lines k).answer ≡ Certified bit
        → bit ≡ bit_of r k (output_of (parts_of r.circuit) output)
    -- and none is refused for a label that is neither of the output's two
    pub known : (output : ℕ) → call_at r.calls k ≡ Certify output → (line_at r.lines k).answer ≢ Refused Foreign
    -- a settlement alike shows the same
    pub alike : (o : Settlement L) → Ran K o (suc k) → o.evaluator_hash ≡ o.garbler_hash → Alike r o → SameLine r o k
