-- What a call of the settlement is, refused or accepted. Assumes nothing.
use Rattle.std.proofs.Common.{◌≡◌, ℕ, ◌-◌, ◌+◌, ◌*◌, ◌<◌, Bool, true, false, not, nat_lt, List, [], ◌∷◌, ◌++◌, length, take, drop, replicate, min, Some, None, Option, refl, ap, ◌∙◌, sym, arith, slice_set, unwrap_or}
use Rattle.std.proofs.lemmas.List.{take_min, length-take}
use Rattle.std.proofs.lemmas.Bool.{leb-false}
use Rattle.labels.specs.Kind.{Kind}
use Rattle.hashes.specs.Count.{counted}
use Rattle.circuit.specs.Parts.{parts_of}
use Rattle.circuit.specs.Gates.{form_of}
use Rattle.circuit.specs.Material.{gate_bytes}
use Rattle.circuit.specs.Refusals.{first_of}
use Rattle.circuit.proofs.Checks.{or_else_none}
use Rattle.circuit.specs.declared.refusal.Refusal.{Refusal}
use Rattle.circuit.specs.declared.refusal.Refusal.TheVariants.{Bit, Again}
use Rattle.parties.specs.Marks.{is_marked}
use Rattle.steps.specs.Gate.{evaluate_calls}
use Rattle.memory.specs.Copy.{open_copy}
use Rattle.memory.specs.Outputs.{colours_of, decoded_of}
use Rattle.parties.specs.declared.side.Side.{Side}
use Rattle.parties.specs.Refusing.{turn_refusal, encode_refusal, deliver_refusal, evaluate_refusal, colours_refusal, decode_refusal}
use Rattle.parties.specs.Side.{marked}
use Rattle.garbler.specs.Garbling.{encoded}
use Rattle.evaluator.specs.Evaluating.{Stepped}
use Rattle.settlement.specs.State.{State, by_encode, by_deliver, by_evaluate, by_colours, by_decode}
use Rattle.settlement.specs.Stands.{refusal, sent_label, colours_by}
use Rattle.settlement.specs.Accepted.{Accepted}
use Rattle.settlement.specs.Made.{Made}
use Rattle.settlement.specs.declared.call.Call.{Call}
use Rattle.settlement.specs.declared.call.Call.TheVariants.{Encode, Deliver, Evaluate, Colours, Decode}
use Rattle.settlement.specs.declared.line.Answer.{Answer}
use Rattle.settlement.specs.declared.line.Answer.TheVariants as Answers
use Rattle.settlement.proofs.Lending.{drop_min}
use Rattle.settlement.proofs.Making.{not_both}

-- of two tests and more, none is met
second_not : (a b : Bool) (x y : Refusal) (rest : List (Bool × Refusal)) → first_of ((a, x) ∷ (b, y) ∷ rest) ≡ None → b ≡ false
second_not true b x y rest e = absurd (let q : ◌≡◌ {A = ℕ} 0 1 = cc in omega arith)
second_not false true x y rest e = absurd (let q : ◌≡◌ {A = ℕ} 0 1 = cc in omega arith)
second_not false false x y rest e = refl

-- an input that is encoded is one of the side's
pub input_there : (side : Side) (bytes : List ℕ) (wires input bit : ℕ) → encode_refusal side bytes wires input bit ≡ None → input < side.sizes.inputs
input_there side bytes wires input bit e =
    leb-false side.sizes.inputs input (second_not _ _ _ _ ((nat_lt 1 bit, Bit) ∷ (is_marked side.marks input, Again) ∷ []) (or_else_none (turn_refusal side bytes (not side.ended)) _ e).1)

module _ {L : Type 0} (K : Kind L) (F E : L → ℕ → L) (bytes : List ℕ) (s t : State L) where
  pub refused : (call : Call) (why : Refusal) → refusal s K bytes call ≡ Some why → t ≡ s → Made K F E bytes call s (Answers.Refused why) t
  refused call why e et = record {
    refused = λ w f. (ap Answers.Refused (let q : Some why ≡ Some w = sym e ∙ f in cc), et);
    accepted = λ f. not_both _ why e f;
  }

  pub accepted : (call : Call) (a : Answer L) → refusal s K bytes call ≡ None → Accepted K bytes s a t F E call → Made K F E bytes call s a t
  accepted call a free made = record {
    refused = λ why e. not_both _ why e free;
    accepted = λ _. made;
  }

  pub encode_accepted : (input bit : ℕ) (label : L)
      → encode_refusal s.garbler bytes (length s.zeros) input bit ≡ None
      → label ≡ encoded K s.offset s.zeros input bit
      → t ≡ by_encode s (marked s.garbler input) (slice_set s.sent input label)
      → Made K F E bytes (Encode input bit) s (Answers.Encoded label) t
  encode_accepted input bit label free e et =
      accepted (Encode input bit) (Answers.Encoded label) free (record {
        answer = ap Answers.Encoded e;
        leaves = et ∙ ap (λ (l : L). by_encode s (marked s.garbler input) (slice_set s.sent input l)) e;
      })

  pub colours_accepted : (n room : ℕ) (part : List ℕ)
      → room ≡ min n (length s.colours)
      → colours_refusal s.garbler bytes (length s.zeros) (length (take room s.colours)) ≡ None
      → part ≡ colours_of K s.zeros (parts_of bytes).outputs (length (take room s.colours))
      → t ≡ by_colours s (part ++ drop room s.colours) (Some room)
      → Made K F E bytes (Colours n) s Answers.Coloured t
  colours_accepted n room part er free e et =
      let same : take room s.colours ≡ take n s.colours = ap (λ (k : ℕ). take k s.colours) er ∙ take_min n s.colours in
      let rest : drop room s.colours ≡ drop n s.colours = ap (λ (k : ℕ). drop k s.colours) er ∙ drop_min n s.colours in
      let long : room ≡ length (take n s.colours) = er ∙ sym (length-take n s.colours) in
      accepted (Colours n) Answers.Coloured
      (ap (λ (xs : List ℕ). colours_refusal s.garbler bytes (length s.zeros) (length xs)) (sym same) ∙ free)
      (record {
        answer = refl;
        leaves = et ∙ (λ i. by_colours s ((e ∙ ap (λ (xs : List ℕ). colours_of K s.zeros (parts_of bytes).outputs (length xs)) same) i ++ rest i) (Some (long i)));
      })

  pub colours_refused : (n room : ℕ) (why : Refusal)
      → room ≡ min n (length s.colours)
      → colours_refusal s.garbler bytes (length s.zeros) (length (take room s.colours)) ≡ Some why
      → t ≡ s → Made K F E bytes (Colours n) s (Answers.Refused why) t
  colours_refused n room why er e et =
      let same : take room s.colours ≡ take n s.colours = ap (λ (k : ℕ). take k s.colours) er ∙ take_min n s.colours in
      refused (Colours n) why (ap (λ (xs : List ℕ). colours_refusal s.garbler bytes (length s.zeros) (length xs)) (sym same) ∙ e) et

-- the evaluator's calls, with the open copy
module _ {L : Type 0} (K : Kind L) (F E : L → ℕ → L) (bytes copy : List ℕ) (ec : copy ≡ open_copy bytes) (s t : State L) where
  pub deliver_accepted : (input : ℕ) (label : L)
      → deliver_refusal s.evaluator copy (length s.labels) input ≡ None
      → label ≡ sent_label s K input
      → t ≡ by_deliver s (marked s.evaluator input) (slice_set s.labels input label)
      → Made K F E bytes (Deliver input) s Answers.Delivered t
  deliver_accepted input label free e et =
      accepted K F E bytes s t (Deliver input) Answers.Delivered
      (ap (λ (b : List ℕ). deliver_refusal s.evaluator b (length s.labels) input) (sym ec) ∙ free)
      (record {
        answer = refl;
        leaves = et ∙ ap (λ (l : L). by_deliver s (marked s.evaluator input) (slice_set s.labels input l)) e;
      })

  pub deliver_refused : (input : ℕ) (why : Refusal)
      → deliver_refusal s.evaluator copy (length s.labels) input ≡ Some why
      → t ≡ s → Made K F E bytes (Deliver input) s (Answers.Refused why) t
  deliver_refused input why e et =
      refused K F E bytes s t (Deliver input) why
      (ap (λ (b : List ℕ). deliver_refusal s.evaluator b (length s.labels) input) (sym ec) ∙ e) et

  -- the scratch that is lent, and the material that is written
  module _ (n n' w : ℕ) (en : n' ≡ min n (length s.scratch)) (ew : w ≡ min s.garbler.bytes (length s.material)) where
    scratch_is : take n' s.scratch ≡ take n s.scratch
    scratch_is = ap (λ (k : ℕ). take k s.scratch) en ∙ take_min n s.scratch

    written_is : take w s.material ≡ take s.garbler.bytes s.material
    written_is = ap (λ (k : ℕ). take k s.material) ew ∙ take_min s.garbler.bytes s.material

    evaluate_is : evaluate_refusal s.evaluator copy K (length s.labels) (length (take n' s.scratch)) (length (take w s.material)) ≡ evaluate_refusal s.evaluator (open_copy bytes) K (length s.labels) (length (take n s.scratch)) (length (take s.garbler.bytes s.material))
    evaluate_is = (λ i. evaluate_refusal s.evaluator (ec i) K (length s.labels) (length (scratch_is i)) (length (written_is i)))

    pub evaluate_accepted : (read : ℕ) (clear : List L)
        → evaluate_refusal s.evaluator copy K (length s.labels) (length (take n' s.scratch)) (length (take w s.material)) ≡ None
        → Stepped K (parts_of copy) E s.evaluator t.evaluator s.labels t.labels (take w s.material) (take n' s.scratch) clear
        → read ≡ t.evaluator.bytes - s.evaluator.bytes
        → t.evaluator_count ≡ counted s.evaluator_count (evaluate_calls (parts_of copy) s.evaluator.next)
        → t ≡ by_evaluate s t.evaluator t.labels (clear ++ drop n' s.scratch) t.evaluator_count
        → Made K F E bytes (Evaluate n) s (Answers.Evaluated read) t
    evaluate_accepted read clear free made er ecount et =
        let g = rw (ec, written_is) at made in
        let q = rw ec at ecount in
        let rest = ap (λ (k : ℕ). drop k s.scratch) en ∙ drop_min n s.scratch in
        let b = gate_bytes (8 * K.width) (form_of (parts_of (open_copy bytes)) s.evaluator.next) in
        let far : t.evaluator.bytes ≡ s.evaluator.bytes + b = ap (λ z. z.bytes) g.side_is in
        let r : read ≡ b = omega arith in
        accepted K F E bytes s t (Evaluate n) (Answers.Evaluated read) (sym evaluate_is ∙ free) (record {
          answer = ap Answers.Evaluated r;
          wires = g.wires;
          leaves = et ∙ (λ i. by_evaluate s (g.side_is i) t.labels
              ((g.scratch_is ∙ ap (λ (xs : List L). replicate (length xs) K.zero) scratch_is) i ++ rest i)
              (q i));
        })

    pub evaluate_refused : (why : Refusal)
        → evaluate_refusal s.evaluator copy K (length s.labels) (length (take n' s.scratch)) (length (take w s.material)) ≡ Some why
        → t ≡ s → Made K F E bytes (Evaluate n) s (Answers.Refused why) t
    evaluate_refused why e et = refused K F E bytes s t (Evaluate n) why (sym evaluate_is ∙ e) et

  -- the colours that were shown, and the outputs that are lent
  module _ (n room seen : ℕ) (en : room ≡ min n (length s.outputs)) (es : take seen s.colours ≡ colours_by s.shown s.colours) where
    outputs_is : take room s.outputs ≡ take n s.outputs
    outputs_is = ap (λ (k : ℕ). take k s.outputs) en ∙ take_min n s.outputs

    decode_is : decode_refusal s.evaluator copy (length s.labels) (take seen s.colours) (length (take room s.outputs)) ≡ decode_refusal s.evaluator (open_copy bytes) (length s.labels) (colours_by s.shown s.colours) (length (take n s.outputs))
    decode_is = (λ i. decode_refusal s.evaluator (ec i) (length s.labels) (es i) (length (outputs_is i)))

    pub decode_accepted : (part : List ℕ)
        → decode_refusal s.evaluator copy (length s.labels) (take seen s.colours) (length (take room s.outputs)) ≡ None
        → part ≡ decoded_of K s.labels (parts_of copy).outputs (take seen s.colours) (length (take room s.outputs))
        → t ≡ by_decode s (part ++ drop room s.outputs)
        → Made K F E bytes (Decode n) s Answers.Decoded t
    decode_accepted part free e et =
        let rest = ap (λ (k : ℕ). drop k s.outputs) en ∙ drop_min n s.outputs in
        let made : part ≡ decoded_of K s.labels (parts_of (open_copy bytes)).outputs (colours_by s.shown s.colours) (length (take n s.outputs)) = e ∙ (λ i. decoded_of K s.labels (parts_of (ec i)).outputs (es i) (length (outputs_is i))) in
        accepted K F E bytes s t (Decode n) Answers.Decoded (sym decode_is ∙ free) (record {
          answer = refl;
          leaves = et ∙ (λ i. by_decode s (made i ++ rest i));
        })

    pub decode_refused : (why : Refusal)
        → decode_refusal s.evaluator copy (length s.labels) (take seen s.colours) (length (take room s.outputs)) ≡ Some why
        → t ≡ s → Made K F E bytes (Decode n) s (Answers.Refused why) t
    decode_refused why e et = refused K F E bytes s t (Decode n) why (sym decode_is ∙ e) et

-- so many colours as were shown, or all where there are fewer
pub seen_is : (shown : Option ℕ) (n seen : ℕ) (colours : List ℕ) → n ≡ unwrap_or shown 0 → seen ≡ min n (length colours) → take seen colours ≡ colours_by shown colours
seen_is None n seen colours e m = let z : seen ≡ 0 = omega arith in rw z refl
seen_is (Some k) n seen colours e m = ap (λ (j : ℕ). take j colours) (m ∙ ap (λ (j : ℕ). min j (length colours)) e) ∙ take_min k colours
