-- What an accepted encode answers, and what an accepted decode writes. Assumes nothing.
use Rattle.std.proofs.Common.{◌≡◌, ℕ, ◌<◌, ◌≤◌, Bool, true, false, not, eqb, List, ◌++◌, length, take, drop, slice_index, Some, None, Option, refl, sym, ap, ap₂, ◌∙◌, arith}
use Rattle.std.proofs.lemmas.Bool.{eqb-true}
use Rattle.std.proofs.lemmas.Bool.Decides.{nat_tests}
use Rattle.std.proofs.lemmas.List.{get_or-take, get_or_append_left}
use Rattle.labels.specs.Kind.{Kind, differs, times}
use Rattle.labels.specs.Numbers.{digit}
use Rattle.labels.specs.Words.{word_at}
use Rattle.hashes.specs.Draws.{offset}
use Rattle.circuit.specs.Parts.{Parts, parts_of}
use Rattle.circuit.specs.Gates.{output_of}
use Rattle.circuit.specs.Check.{circuit_refusal}
use Rattle.gates.proofs.Halves.{colour_of_bit}
use Rattle.plain.specs.Plain.{plain_bit}
use Rattle.steps.specs.Whole.{zero_label}
use Rattle.labels.specs.Lists.{listed, places}
use Rattle.tables.proofs.Packing.{length_listed, get_or_listed}
use Rattle.memory.specs.Copy.{open_copy}
use Rattle.memory.specs.Outputs.{decoded_at, decoded_of}
use Rattle.garbler.specs.Garbling.{encoded}
use Rattle.circuit.specs.Words.{all_below}
use Rattle.circuit.specs.declared.refusal.Refusal.TheVariants.{Memory, Bit}
use Rattle.circuit.proofs.Checks.{or_else_none}
use Rattle.parties.specs.States.{allowed, state_of}
use Rattle.parties.specs.declared.state.EvaluatorCall.TheVariants.{Decode as DecodeCall}
use Rattle.parties.specs.Refusing.{outputs_refusal}
use Rattle.settlement.proofs.Circuits.{outputs_made}
use Rattle.settlement.proofs.Facts.{input_free, outputs_free, two_passed, not_false}
use Rattle.laws.proofs.Order.{made_up, inputs_within}
use Rattle.laws.proofs.Opening.{parts_open}
use Rattle.parties.specs.Marks.{all_marked}
use Rattle.parties.specs.Turns.{gates_left}
use Rattle.settlement.specs.State.{State}
use Rattle.settlement.specs.Lines.{is_accepted}
use Rattle.settlement.specs.Stands.{stands, refusal, is_shown, colours_by}
use Rattle.settlement.specs.Accepted.{Accepted}
use Rattle.settlement.specs.Claims.{noted}
use Rattle.settlement.specs.declared.call.Call.{Call}
use Rattle.settlement.specs.declared.call.Call.TheVariants.{Garble, Encode, Deliver, Evaluate, Colours, Decode, Certify}
use Rattle.settlement.specs.declared.line.Answer.{Answer}
use Rattle.settlement.specs.declared.line.Answer.TheVariants as Answers
use Rattle.settlement.proofs.Between.{ruled, Tied}
use Rattle.settlement.proofs.Turning.{true_false, may_decode}

abbrev pub is_decoded : {L : Type 0} → Answer L → Bool
is_decoded Answers.NotMade = false
is_decoded (Answers.Refused why) = false
is_decoded (Answers.Garbled bits bytes) = false
is_decoded (Answers.Encoded label) = false
is_decoded Answers.Delivered = false
is_decoded (Answers.Evaluated bytes) = false
is_decoded Answers.Coloured = false
is_decoded Answers.Decoded = true
is_decoded (Answers.Certified bit) = false

differs_back : (p b : Bool) → differs (differs p b) p ≡ b
differs_back true true = refl
differs_back true false = refl
differs_back false true = refl
differs_back false false = refl

pub digit_is : (b : Bool) → eqb (digit b) 1 ≡ b
digit_is true = refl
digit_is false = refl

module _ {L : Type 0} (K : Kind L) (F : L → ℕ → L) (bytes : List ℕ) (seed : L) (passes : circuit_refusal bytes ≡ None) (coloured : K.colour (offset F seed K) ≡ true)
    (s : State L) (x : ℕ → Bool) (tied : Tied K F bytes seed s x) where
  abbrev d : Parts
  d = parts_of bytes

  shown_is : (o : Option ℕ) → is_shown o ≡ true → (q : ℕ) × (o ≡ Some q)
  shown_is (Some q) e = (q, refl)
  shown_is None e = true_false false e refl

  -- what decode writes
  pub decode_value : (n : ℕ) → stands s (Decode n) ≡ true → refusal s K bytes (Decode n) ≡ None → (o : ℕ) → o < d.sizes.outputs
      → slice_index (decoded_of K s.labels (parts_of (open_copy bytes)).outputs (colours_by s.shown s.colours) (length (take n s.outputs)) ++ drop n s.outputs) o ≡ digit (plain_bit d x (output_of d o))
  decode_value n standing free o l =
      let both = or_else_none (outputs_refusal s.evaluator (open_copy bytes) (allowed (state_of s.evaluator) DecodeCall) (length s.labels) (length (colours_by s.shown s.colours))) _ free in
      let f = outputs_free s.evaluator (open_copy bytes) (allowed (state_of s.evaluator) DecodeCall) (length s.labels) (length (colours_by s.shown s.colours)) both.0 in
      let turn = may_decode s.evaluator.ended (all_marked s.evaluator.marks s.evaluator.sizes.inputs) (gates_left s.evaluator) f.its_turn in
      let m = length (take n s.outputs) in
      let long : m ≡ s.evaluator.sizes.outputs = eqb-true m s.evaluator.sizes.outputs (not_false (eqb m s.evaluator.sizes.outputs) (two_passed (not (eqb m s.evaluator.sizes.outputs)) (not (all_below (λ i. slice_index (colours_by s.shown s.colours) i) (length (colours_by s.shown s.colours)) 2)) Memory Bit both.1).0) in
      let sizes = ap (λ z. z.outputs) tied.evaluator_sizes in
      let gates = ap (λ z. z.gates) tied.evaluator_sizes in
      let all : all_marked s.evaluator.marks d.sizes.inputs ≡ true = ap (λ z. all_marked s.evaluator.marks z.inputs) (sym tied.evaluator_sizes) ∙ turn.0 in
      let none = turn.1 in
      let done : s.evaluator.sizes.gates ≤ s.evaluator.next = grind (arith, nat_tests) in
      let up = made_up d d.sizes.gates s.evaluator.next (omega arith) in
      let made = tied.evaluator_made in
      let within = outputs_made bytes passes o l in
      let q = shown_is s.shown standing in
      let shown = tied.shown q.0 q.1 in
      let list : (parts_of (open_copy bytes)).outputs ≡ d.outputs = ap (λ (p : Parts). p.outputs) (parts_open bytes passes) in
      let f_at = decoded_at K s.labels (parts_of (open_copy bytes)).outputs (colours_by s.shown s.colours) in
      let as_many = length_listed f_at m in
      let few = shown.0 in
      let colour : slice_index (colours_by s.shown s.colours) o ≡ digit (K.colour (zero_label K F seed d (output_of d o))) =
      ap (λ (p : Option ℕ). slice_index (colours_by p s.colours) o) q.1 ∙ get_or-take q.0 s.colours o 0 (omega arith) ∙ shown.1 o l
      in
      let label : K.colour (places K s.labels (word_at (parts_of (open_copy bytes)).outputs o)) ≡ differs (K.colour (zero_label K F seed d (output_of d o))) (plain_bit d x (output_of d o)) =
      ap (λ (xs : List ℕ). K.colour (places K s.labels (word_at xs o))) list ∙ ap K.colour (tied.evaluated all (output_of d o) (omega arith))
      ∙ colour_of_bit K (zero_label K F seed d (output_of d o)) (offset F seed K) (plain_bit d x (output_of d o)) coloured
      in
      get_or_append_left (listed m f_at) (drop n s.outputs) 0 o (omega arith) ∙ get_or_listed f_at m o 0 (omega arith)
      ∙ ap₂ (λ (b : Bool) (k : ℕ). digit (differs b (eqb k 1))) label colour
      ∙ ap (λ (b : Bool). digit (differs (differs (K.colour (zero_label K F seed d (output_of d o))) (plain_bit d x (output_of d o))) b)) (digit_is (K.colour (zero_label K F seed d (output_of d o))))
      ∙ ap digit (differs_back (K.colour (zero_label K F seed d (output_of d o))) (plain_bit d x (output_of d o)))

  -- what encode answers
  pub encode_value : (i b : ℕ) → refusal s K bytes (Encode i b) ≡ None → encoded K s.offset s.zeros i b ≡ ruled K F bytes seed i (eqb b 1)
  encode_value i b free =
      let f = input_free s.garbler bytes (not s.garbler.ended) (length s.zeros) i b free in
      let sizes = ap (λ z. z.inputs) tied.garbler_sizes in
      let below = f.there in
      let inside = inputs_within d s.garbler.next in
      let made = tied.garbler_made in
      ap₂ (λ z p. K.xor z (times K (eqb b 1) p)) (tied.zeros i (omega arith)) tied.offset_is

  -- decode notes no bit
  pub decode_notes : (call : Call) (a : Answer L) (E : L → ℕ → L) (z t : State L) → Accepted K bytes z a t F E call → is_decoded a ≡ true → (y : ℕ → Bool) → noted call (is_accepted a) y ≡ y
  decode_notes (Garble n m) a E z t acc e y = true_false (is_decoded a) e (ap is_decoded acc.answer)
  decode_notes (Encode i b) a E z t acc e y = true_false (is_decoded a) e (ap is_decoded acc.answer)
  decode_notes (Deliver i) a E z t acc e y = refl
  decode_notes (Evaluate n) a E z t acc e y = refl
  decode_notes (Colours n) a E z t acc e y = refl
  decode_notes (Decode n) a E z t acc e y = refl
  decode_notes (Certify o) a E z t acc e y = refl

  pub decode_case : (call : Call) (a : Answer L) (t : State L) (E : L → ℕ → L) → Accepted K bytes s a t F E call → stands s call ≡ true → refusal s K bytes call ≡ None → is_decoded a ≡ true
      → (o : ℕ) → o < d.sizes.outputs → slice_index t.outputs o ≡ digit (plain_bit d x (output_of d o))
  decode_case (Garble n m) a t E acc standing free e o l = true_false (is_decoded a) e (ap is_decoded acc.answer)
  decode_case (Encode i b) a t E acc standing free e o l = true_false (is_decoded a) e (ap is_decoded acc.answer)
  decode_case (Deliver i) a t E acc standing free e o l = true_false (is_decoded a) e (ap is_decoded acc.answer)
  decode_case (Evaluate n) a t E acc standing free e o l = true_false (is_decoded a) e (ap is_decoded acc.answer)
  decode_case (Colours n) a t E acc standing free e o l = true_false (is_decoded a) e (ap is_decoded acc.answer)
  decode_case (Decode n) a t E acc standing free e o l = ap (λ (z : State L). slice_index z.outputs o) acc.leaves ∙ decode_value n standing free o l
  decode_case (Certify k) a t E acc standing free e o l = true_false (is_decoded a) e (ap is_decoded acc.answer)
