-- A call of two settlements that are alike shows the same, and leaves both alike. Assumes nothing.
use Rattle.std.proofs.Common.{◌≡◌, ℕ, ◌*◌, true, not, ◌&&◌, ◌||◌, leb, ltb, List, length, take, Some, None, Option, refl, sym, ap, ap₂, ◌∙◌, subst, inl, inr}
use Rattle.std.proofs.lemmas.Bool.{cases_Bool}
use Rattle.labels.specs.Kind.{Kind}
use Rattle.hashes.specs.Count.{counted}
use Rattle.circuit.specs.Parts.{Parts, parts_of}
use Rattle.circuit.specs.Forms.{fan_in, fan_out, makes, by_form}
use Rattle.circuit.specs.Gates.{form_of}
use Rattle.circuit.specs.Material.{gate_bits, gate_bytes}
use Rattle.circuit.specs.declared.refusal.Refusal.{Refusal}
use Rattle.memory.specs.Copy.{open_copy}
use Rattle.parties.specs.declared.side.Side.{Side}
use Rattle.parties.specs.declared.state.EvaluatorCall.TheVariants.{Deliver as DeliverCall, Evaluate as EvaluateCall, Decode as DecodeCall}
use Rattle.parties.specs.Marks.{is_marked}
use Rattle.parties.specs.Turns.{gates_left}
use Rattle.parties.specs.States.{state_of, allowed}
use Rattle.parties.specs.Refusing.{garble_refusal, encode_refusal, deliver_refusal, evaluate_refusal, colours_refusal, decode_refusal, output_refusal}
use Rattle.parties.specs.Side.{marked, stepped}
use Rattle.steps.specs.Gate.{garble_calls, evaluate_calls}
use Rattle.tables.specs.Gate.{garbler_calls, evaluator_calls}
use Rattle.settlement.specs.State.{State}
use Rattle.settlement.specs.Lines.{bare}
use Rattle.settlement.specs.Stands.{is_shown, colours_by, stands, refusal}
use Rattle.settlement.specs.Accepted.{Accepted}
use Rattle.settlement.specs.Made.{Step}
use Rattle.settlement.specs.Alike.{SameCall, SameLengths}
use Rattle.settlement.specs.declared.call.Call.{Call}
use Rattle.settlement.specs.declared.call.Call.TheVariants.{Garble, Encode, Deliver, Evaluate, Colours, Decode, Certify}
use Rattle.settlement.specs.declared.line.Answer.{Answer}
use Rattle.settlement.specs.declared.line.Answer.TheVariants as Answers
use Rattle.settlement.proofs.AlikeLengths.{lent_long}
use Rattle.settlement.proofs.AlikeBits.{AreBits}
use Rattle.settlement.proofs.AlikeRefusals.{SameTurns, step_same, input_same, output_same, outputs_same, decode_same}

-- hash calls are a matter of the form
garbler_same : (c d : Parts) (g h : ℕ) → form_of d h ≡ form_of c g → garble_calls d h ≡ garble_calls c g
unfolding garble_calls
garbler_same c d g h e = ap (λ (f : ℕ). by_form f 0 4 (garbler_calls (fan_in f) (fan_out f))) e

evaluator_same : (c d : Parts) (g h : ℕ) → form_of d h ≡ form_of c g → evaluate_calls d h ≡ evaluate_calls c g
unfolding evaluate_calls
evaluator_same c d g h e = ap (λ (f : ℕ). by_form f 0 2 (evaluator_calls (fan_in f) (fan_out f))) e

-- and so are the lengths that are shown
abbrev garbled_by : ℕ → ℕ → Answer ℕ
garbled_by width form = Answers.Garbled (gate_bits width form) (gate_bytes width form)

abbrev evaluated_by : ℕ → ℕ → Answer ℕ
evaluated_by width form = Answers.Evaluated (gate_bytes width form)

-- a call with another bit
abbrev pub with_bit : Call → ℕ → Call
with_bit (Garble n m) y = Garble n m
with_bit (Encode i b) y = Encode i y
with_bit (Deliver i) y = Deliver i
with_bit (Evaluate n) y = Evaluate n
with_bit (Colours n) y = Colours n
with_bit (Decode n) y = Decode n
with_bit (Certify k) y = Certify k

abbrev pub bit_in : Call → ℕ
bit_in (Garble n m) = 0
bit_in (Encode i b) = b
bit_in (Deliver i) = 0
bit_in (Evaluate n) = 0
bit_in (Colours n) = 0
bit_in (Decode n) = 0
bit_in (Certify k) = 0

twin : (x d : Call) → SameCall x d → (y : ℕ) × (d ≡ with_bit x y) × (ltb 1 y ≡ ltb 1 (bit_in x))
twin (Garble n m) d e = (0, e, refl)
twin (Encode i b) d e = (e.0, e.1, e.2)
twin (Deliver i) d e = (0, e, refl)
twin (Evaluate n) d e = (0, e, refl)
twin (Colours n) d e = (0, e, refl)
twin (Decode n) d e = (0, e, refl)
twin (Certify k) d e = (0, e, refl)

-- two states alike in all that refusals and counts come from, but for lengths
pub record SameSides {L : Type 0} (s t : State L) : Type 0 where
  pub garbler : t.garbler ≡ s.garbler
  pub evaluator : t.evaluator ≡ s.evaluator
  pub shown : t.shown ≡ s.shown
  pub decoded : t.decoded ≡ s.decoded
  pub garbler_count : t.garbler_count ≡ s.garbler_count
  pub evaluator_count : t.evaluator_count ≡ s.evaluator_count

carried : {L : Type 0} (u v : State L) {x y : State L} → u ≡ x → v ≡ y → SameSides x y → SameSides u v
carried {L = L} u v {x = x} e f same = subst (λ (z : State L). SameSides z v) (sym e) (subst (λ (z : State L). SameSides x z) (sym f) same)

-- what a call shows, and what it leaves
pub record After {L : Type 0} (a b : Answer L) (u v : State L) : Type 0 where
  pub answer : bare b ≡ bare a
  pub sides : SameSides u v

shown_length : (a : Option ℕ) (xs ys : List ℕ) → length ys ≡ length xs → length (colours_by a ys) ≡ length (colours_by a xs)
shown_length (Some n) xs ys l = lent_long n xs ys l
shown_length None xs ys l = refl

-- a certify that stands is refused by what both sides show alone
abbrev pub CertifyPublic : {L : Type 0} → Kind L → List ℕ → State L → Type 0
CertifyPublic K bytes s = (k : ℕ) → s.decoded ≡ true → refusal s K bytes (Certify k) ≡ output_refusal s.garbler bytes (not s.garbler.ended && not (gates_left s.garbler)) (length s.zeros) k

module _ {L : Type 0} (K : Kind L) (r o : List ℕ) (turns : SameTurns r o) (copies : SameTurns (open_copy r) (open_copy o))
    (s t : State L) (same : SameSides s t) (lengths : SameLengths s t) (s_bits : AreBits s) (t_bits : AreBits t)
    (s_own : CertifyPublic K r s) (t_own : CertifyPublic K o t) where
  stands_same : (x : Call) (y : ℕ) → stands t (with_bit x y) ≡ stands s x
  stands_same (Garble n m) y = refl
  stands_same (Encode i b) y = refl
  stands_same (Deliver i) y = ap (λ (g : Side). leb g.sizes.inputs i || is_marked g.marks i) same.garbler
  stands_same (Evaluate n) y = refl
  stands_same (Colours n) y = refl
  stands_same (Decode n) y = ap is_shown same.shown
  stands_same (Certify k) y = same.decoded

  scratch_long : (n : ℕ) → length (take n t.scratch) ≡ length (take n s.scratch)
  scratch_long n = lent_long n s.scratch t.scratch lengths.scratch

  material_lent : (n : ℕ) → length (take n t.material) ≡ length (take n s.material)
  material_lent n = lent_long n s.material t.material lengths.material

  colours_lent : (n : ℕ) → length (take n t.colours) ≡ length (take n s.colours)
  colours_lent n = lent_long n s.colours t.colours lengths.colours

  outputs_lent : (n : ℕ) → length (take n t.outputs) ≡ length (take n s.outputs)
  outputs_lent n = lent_long n s.outputs t.outputs lengths.outputs

  shown_same : length (colours_by t.shown t.colours) ≡ length (colours_by s.shown s.colours)
  shown_same = ap (λ (z : Option ℕ). length (colours_by z t.colours)) same.shown ∙ shown_length s.shown s.colours t.colours lengths.colours

  refusal_same : (x : Call) (y : ℕ) → stands s x ≡ true → ltb 1 y ≡ ltb 1 (bit_in x) → refusal t K o (with_bit x y) ≡ refusal s K r x
  refusal_same (Garble n m) y standing e =
      (λ i. garble_refusal (same.garbler i) o K (lengths.zeros i) (scratch_long n i) (material_lent m i))
      ∙ step_same r o turns s.garbler K (not s.garbler.ended && gates_left s.garbler) (length s.zeros) (length (take n s.scratch)) (length (take m s.material))
  refusal_same (Encode i b) y standing e =
      (λ j. encode_refusal (same.garbler j) o (lengths.zeros j) i y)
      ∙ input_same r o turns s.garbler (not s.garbler.ended) (length s.zeros) i b y e
  refusal_same (Deliver i) y standing e =
      (λ j. deliver_refusal (same.evaluator j) (open_copy o) (lengths.labels j) i)
      ∙ input_same (open_copy r) (open_copy o) copies s.evaluator (allowed (state_of s.evaluator) DeliverCall) (length s.labels) i 0 0 refl
  refusal_same (Evaluate n) y standing e =
      (λ i. evaluate_refusal (same.evaluator i) (open_copy o) K (lengths.labels i) (scratch_long n i) (length (take (same.garbler i).bytes t.material)))
      ∙ ap (evaluate_refusal s.evaluator (open_copy o) K (length s.labels) (length (take n s.scratch))) (material_lent s.garbler.bytes)
      ∙ step_same (open_copy r) (open_copy o) copies s.evaluator K (allowed (state_of s.evaluator) EvaluateCall) (length s.labels) (length (take n s.scratch)) (length (take s.garbler.bytes s.material))
  refusal_same (Colours n) y standing e =
      (λ i. colours_refusal (same.garbler i) o (lengths.zeros i) (colours_lent n i))
      ∙ outputs_same r o turns s.garbler (not s.garbler.ended && not (gates_left s.garbler)) (length s.zeros) (length (take n s.colours))
  refusal_same (Decode n) y standing e =
      (λ i. decode_refusal (same.evaluator i) (open_copy o) (lengths.labels i) (colours_by t.shown t.colours) (outputs_lent n i))
      ∙ decode_same (open_copy r) (open_copy o) copies s.evaluator (allowed (state_of s.evaluator) DecodeCall) (length s.labels) (length (take n s.outputs)) (colours_by s.shown s.colours) (colours_by t.shown t.colours)
      shown_same (t_bits ∙ sym s_bits)
  refusal_same (Certify k) y standing e =
      t_own k (same.decoded ∙ standing)
      ∙ (λ i. output_refusal (same.garbler i) o (not (same.garbler i).ended && not (gates_left (same.garbler i))) (lengths.zeros i) k)
      ∙ output_same r o turns s.garbler (not s.garbler.ended && not (gates_left s.garbler)) (length s.zeros) k
      ∙ sym (s_own k standing)

  -- the next gate of either side
  garbler_form : form_of (parts_of o) t.garbler.next ≡ form_of (parts_of r) s.garbler.next
  garbler_form = ap (λ (g : Side). form_of (parts_of o) g.next) same.garbler ∙ turns.forms s.garbler.next

  evaluator_form : form_of (parts_of (open_copy o)) t.evaluator.next ≡ form_of (parts_of (open_copy r)) s.evaluator.next
  evaluator_form = ap (λ (g : Side). form_of (parts_of (open_copy o)) g.next) same.evaluator ∙ copies.forms s.evaluator.next

  module _ (F E F' E' : L → ℕ → L) (a b : Answer L) (u v : State L) where
    accepted_same : (x : Call) (y : ℕ) → Accepted K r s a u F E x → Accepted K o t b v F' E' (with_bit x y) → After a b u v
    accepted_same (Garble n m) y p q = record {
      answer = ap bare q.answer ∙ ap (garbled_by (8 * K.width)) garbler_form ∙ sym (ap bare p.answer);
      sides = carried u v p.leaves q.leaves (record {
        garbler = (λ i. stepped (same.garbler i) (makes (garbler_form i)) (gate_bytes (8 * K.width) (garbler_form i)));
        evaluator = same.evaluator;
        shown = same.shown;
        decoded = same.decoded;
        garbler_count = ap₂ counted same.garbler_count (garbler_same (parts_of r) (parts_of o) s.garbler.next t.garbler.next garbler_form);
        evaluator_count = same.evaluator_count;
      });
    }
    accepted_same (Encode i x) y p q = record {
      answer = ap bare q.answer ∙ sym (ap bare p.answer);
      sides = carried u v p.leaves q.leaves (record {
        garbler = ap (λ (g : Side). marked g i) same.garbler;
        evaluator = same.evaluator;
        shown = same.shown;
        decoded = same.decoded;
        garbler_count = same.garbler_count;
        evaluator_count = same.evaluator_count;
      });
    }
    accepted_same (Deliver i) y p q = record {
      answer = ap bare q.answer ∙ sym (ap bare p.answer);
      sides = carried u v p.leaves q.leaves (record {
        garbler = same.garbler;
        evaluator = ap (λ (g : Side). marked g i) same.evaluator;
        shown = same.shown;
        decoded = same.decoded;
        garbler_count = same.garbler_count;
        evaluator_count = same.evaluator_count;
      });
    }
    accepted_same (Evaluate n) y p q = record {
      answer = ap bare q.answer ∙ ap (evaluated_by (8 * K.width)) evaluator_form ∙ sym (ap bare p.answer);
      sides = carried u v p.leaves q.leaves (record {
        garbler = same.garbler;
        evaluator = (λ i. stepped (same.evaluator i) (makes (evaluator_form i)) (gate_bytes (8 * K.width) (evaluator_form i)));
        shown = same.shown;
        decoded = same.decoded;
        garbler_count = same.garbler_count;
        evaluator_count = ap₂ counted same.evaluator_count (evaluator_same (parts_of (open_copy r)) (parts_of (open_copy o)) s.evaluator.next t.evaluator.next evaluator_form);
      });
    }
    accepted_same (Colours n) y p q = record {
      answer = ap bare q.answer ∙ sym (ap bare p.answer);
      sides = carried u v p.leaves q.leaves (record {
        garbler = same.garbler;
        evaluator = same.evaluator;
        shown = (λ i. Some (colours_lent n i));
        decoded = same.decoded;
        garbler_count = same.garbler_count;
        evaluator_count = same.evaluator_count;
      });
    }
    accepted_same (Decode n) y p q = record {
      answer = ap bare q.answer ∙ sym (ap bare p.answer);
      sides = carried u v p.leaves q.leaves (record {
        garbler = same.garbler;
        evaluator = same.evaluator;
        shown = same.shown;
        decoded = refl;
        garbler_count = same.garbler_count;
        evaluator_count = same.evaluator_count;
      });
    }
    accepted_same (Certify k) y p q = record {
      answer = ap bare q.answer ∙ sym (ap bare p.answer);
      sides = carried u v p.leaves q.leaves same;
    }

    stayed : u ≡ s → v ≡ t → bare b ≡ bare a → After a b u v
    stayed e f answer = record {
      answer = answer;
      sides = carried u v e f same;
    }

    module _ (x : Call) (y : ℕ) (low : ltb 1 y ≡ ltb 1 (bit_in x)) (p : Step K F E r s x a u) (q : Step K F' E' o t (with_bit x y) b v) where
      standing_same : stands s x ≡ true → (w : Option Refusal) → refusal s K r x ≡ w → After a b u v
      standing_same e (Some why) f =
          let m = (p.made e).refused why f in
          let n = (q.made (stands_same x y ∙ e)).refused why (refusal_same x y e low ∙ f) in
          stayed m.1 n.1 (ap bare n.0 ∙ sym (ap bare m.0))
      standing_same e None f = accepted_same x y ((p.made e).accepted f) ((q.made (stands_same x y ∙ e)).accepted (refusal_same x y e low ∙ f))

      made_same : After a b u v
      made_same = elim (cases_Bool (stands s x)) [
        | inl e ↦ standing_same e (refusal s K r x) refl
        | inr e ↦ (
            let m = p.unmade e in
            let n = q.unmade (stands_same x y ∙ e) in
            stayed m.1 n.1 (ap bare n.0 ∙ sym (ap bare m.0)))
      ]

    pub call_same : (x d : Call) → SameCall x d → Step K F E r s x a u → Step K F' E' o t d b v → After a b u v
    call_same x d alike p q =
        let w = twin x d alike in
        made_same x w.0 w.2 p (subst (λ (z : Call). Step K F' E' o t z b v) w.1 q)
