-- Encode and deliver keep the tie. Assumes nothing.
use Rattle.std.proofs.Common.{◌≡◌, ℕ, ◌<◌, Bool, true, false, cond, not, eqb, leb, ltb, List, length, set, None, refl, sym, ap, ap₂, ◌∙◌, subst, inl, inr, arith}
use Rattle.std.proofs.lemmas.Bool.{cases_Bool, cases_eq, lt-ltb, eq-eqb, ne_eqb}
use Rattle.std.proofs.lemmas.Bool.Decides.{nat_tests}
use Rattle.std.proofs.lemmas.List.{length-set, get_or-set_same, get_or-set_other}
use Rattle.labels.specs.Kind.{Kind, times}
use Rattle.circuit.specs.Parts.{Parts, parts_of}
use Rattle.circuit.specs.Gates.{made_before, wires_in}
use Rattle.circuit.specs.Check.{circuit_refusal}
use Rattle.labels.specs.Lists.{places}
use Rattle.memory.specs.Copy.{open_copy}
use Rattle.laws.proofs.Order.{made_zero, inputs_within}
use Rattle.laws.proofs.Bits.{plain_input}
use Rattle.laws.proofs.Opening.{parts_open}
use Rattle.parties.specs.declared.state.EvaluatorCall.TheVariants.{Deliver as DeliverCall}
use Rattle.parties.specs.Marks.{is_marked, all_marked}
use Rattle.parties.specs.Side.{marked}
use Rattle.parties.specs.States.{allowed, state_of}
use Rattle.parties.proofs.Marking.{each_marked}
use Rattle.garbler.specs.Garbling.{encoded}
use Rattle.settlement.specs.State.{State, by_encode, by_deliver}
use Rattle.settlement.specs.Stands.{stands, refusal, sent_label}
use Rattle.settlement.specs.declared.call.Call.TheVariants.{Encode, Deliver}
use Rattle.settlement.proofs.Circuits.{inputs_few}
use Rattle.settlement.proofs.Facts.{input_free}
use Rattle.settlement.proofs.Between.{ruled, Tied}
use Rattle.settlement.proofs.Turning.{true_false, or_right}

module _ {L : Type 0} (K : Kind L) (F : L → ℕ → L) (bytes : List ℕ) (seed : L) (passes : circuit_refusal bytes ≡ None) (s : State L) (x : ℕ → Bool) (tied : Tied K F bytes seed s x) where
  abbrev c : Parts
  c = parts_of bytes

  pub encode_keeps : (i b : ℕ) → refusal s K bytes (Encode i b) ≡ None
      → Tied K F bytes seed (by_encode s (marked s.garbler i) (set s.sent i (encoded K s.offset s.zeros i b))) (λ j. cond (eqb j i) (eqb b 1) (x j))
  encode_keeps i b free =
      let f = input_free s.garbler bytes (not s.garbler.ended) (length s.zeros) i b free in
      let sizes = ap (λ z. z.inputs) tied.garbler_sizes in
      let below = f.there in
      let there : i < c.sizes.inputs = omega arith in
      let few = inputs_few bytes passes in
      let inside = inputs_within c s.garbler.next in
      let made = tied.garbler_made in
      let room = tied.sent_room in
      let long = tied.marks_long in
      let value : encoded K s.offset s.zeros i b ≡ ruled K F bytes seed i (eqb b 1) = ap₂ (λ z d. K.xor z (times K (eqb b 1) d)) (tied.zeros i (omega arith)) tied.offset_is in
      let bit_here : (j : ℕ) → j ≡ i → cond (eqb j i) (eqb b 1) (x j) ≡ eqb b 1 = λ j p. let e = eq-eqb j i p in rw e refl in
      let bit_else : (j : ℕ) → (j ≡ i → ⊥) → x j ≡ cond (eqb j i) (eqb b 1) (x j) = λ j q. let e = ne_eqb j i q in rw e refl in
      let mark_else : (j : ℕ) → (j ≡ i → ⊥) → is_marked (set s.garbler.marks i true) j ≡ is_marked s.garbler.marks j = λ j q. get_or-set_other s.garbler.marks i j true false q in
      let not_here : (j : ℕ) → j < c.sizes.inputs → is_marked s.evaluator.marks j ≡ true → j ≡ i → ⊥ =
      λ j l mk p. true_false (is_marked s.garbler.marks i) (ap (is_marked s.garbler.marks) (sym p) ∙ tied.after_encode j l mk) f.new
      in
      record {
        seed_is = tied.seed_is;
        offset_is = tied.offset_is;
        garbler_sizes = tied.garbler_sizes;
        garbler_made = tied.garbler_made;
        garbler_bytes = tied.garbler_bytes;
        zeros = tied.zeros;
        written = tied.written;
        sent = λ j mk. elim (cases_eq j i) [
          | inl p ↦ ap (places K (set s.sent i (encoded K s.offset s.zeros i b))) p ∙ get_or-set_same s.sent i (encoded K s.offset s.zeros i b) K.zero (omega arith)
              ∙ value ∙ ap₂ (ruled K F bytes seed) (sym p) (sym (bit_here j p))
          | inr q ↦ get_or-set_other s.sent i j (encoded K s.offset s.zeros i b) K.zero q ∙ tied.sent j (sym (mark_else j q) ∙ mk) ∙ ap (ruled K F bytes seed j) (bit_else j q)
        ];
        evaluator_sizes = tied.evaluator_sizes;
        evaluator_made = tied.evaluator_made;
        evaluator_bytes = tied.evaluator_bytes;
        after_encode = λ j l mk. elim (cases_eq j i) [
          | inl p ↦ ap (is_marked (set s.garbler.marks i true)) p ∙ get_or-set_same s.garbler.marks i true false (omega arith)
          | inr q ↦ mark_else j q ∙ tied.after_encode j l mk
        ];
        delivered = λ j l mk. tied.delivered j l mk ∙ ap (ruled K F bytes seed j) (bit_else j (not_here j l mk));
        waits = tied.waits;
        evaluated = λ all w l. absurd (not_here i there (each_marked s.evaluator.marks c.sizes.inputs all i there) refl);
        shown = tied.shown;
        finished = tied.finished;
        sent_room = let e = length-set s.sent i (encoded K s.offset s.zeros i b) in omega arith;
        marks_long = length-set s.garbler.marks i true ∙ tied.marks_long;
        labels_marks_long = tied.labels_marks_long;
      }

  sent_keeps : (i : ℕ) → stands s (Deliver i) ≡ true → refusal s K bytes (Deliver i) ≡ None
      → Tied K F bytes seed (by_deliver s (marked s.evaluator i) (set s.labels i (places K s.sent i))) x
  sent_keeps i standing free =
      let f = input_free s.evaluator (open_copy bytes) (allowed (state_of s.evaluator) DeliverCall) (length s.labels) i 0 free in
      let sizes = ap (λ z. z.inputs) tied.evaluator_sizes in
      let garbler_sizes = ap (λ z. z.inputs) tied.garbler_sizes in
      let below = f.there in
      let there : i < c.sizes.inputs = omega arith in
      let few = inputs_few bytes passes in
      let inside = inputs_within c c.sizes.gates in
      let all_wires : wires_in (parts_of (open_copy bytes)) ≡ wires_in c = ap wires_in (parts_open bytes passes) in
      let room = f.room in
      let long = tied.labels_marks_long in
      let high : leb s.garbler.sizes.inputs i ≡ false = grind (arith, nat_tests) in
      let was_encoded = or_right (leb s.garbler.sizes.inputs i) (is_marked s.garbler.marks i) standing high in
      let waiting : s.evaluator.next ≡ 0 = elim (cases_Bool (all_marked s.evaluator.marks c.sizes.inputs)) [
        | inl e ↦ true_false (is_marked s.evaluator.marks i) (each_marked s.evaluator.marks c.sizes.inputs e i there) f.new
        | inr e ↦ tied.waits e
      ] in
      let mark_else : (j : ℕ) → (j ≡ i → ⊥) → is_marked (set s.evaluator.marks i true) j ≡ is_marked s.evaluator.marks j = λ j q. get_or-set_other s.evaluator.marks i j true false q in
      let now : (j : ℕ) → j < c.sizes.inputs → is_marked (set s.evaluator.marks i true) j ≡ true → places K (set s.labels i (places K s.sent i)) j ≡ ruled K F bytes seed j (x j) =
      λ j l mk. elim (cases_eq j i) [
        | inl p ↦ ap (places K (set s.labels i (places K s.sent i))) p ∙ get_or-set_same s.labels i (places K s.sent i) K.zero (omega arith)
            ∙ tied.sent i was_encoded ∙ ap (λ (k : ℕ). ruled K F bytes seed k (x k)) (sym p)
        | inr q ↦ get_or-set_other s.labels i j (places K s.sent i) K.zero q ∙ tied.delivered j l (sym (mark_else j q) ∙ mk)
      ]
      in
      let made = tied.evaluator_made in
      let first : s.evaluator.made ≡ c.sizes.inputs = made ∙ ap (made_before c) waiting ∙ made_zero c in
      record {
        seed_is = tied.seed_is;
        offset_is = tied.offset_is;
        garbler_sizes = tied.garbler_sizes;
        garbler_made = tied.garbler_made;
        garbler_bytes = tied.garbler_bytes;
        zeros = tied.zeros;
        written = tied.written;
        sent = tied.sent;
        evaluator_sizes = tied.evaluator_sizes;
        evaluator_made = tied.evaluator_made;
        evaluator_bytes = tied.evaluator_bytes;
        after_encode = λ j l mk. elim (cases_eq j i) [
          | inl p ↦ ap (is_marked s.garbler.marks) p ∙ was_encoded
          | inr q ↦ tied.after_encode j l (sym (mark_else j q) ∙ mk)
        ];
        delivered = now;
        waits = λ no. waiting;
        evaluated = λ all w l. (
            let in_inputs : w < c.sizes.inputs = omega arith in
            now w in_inputs (each_marked (set s.evaluator.marks i true) c.sizes.inputs all w in_inputs) ∙ ap (ruled K F bytes seed w) (sym (plain_input c x w in_inputs)));
        shown = tied.shown;
        finished = λ e. true_false (is_marked s.evaluator.marks i) (each_marked s.evaluator.marks c.sizes.inputs (tied.finished e).0 i there) f.new;
        sent_room = tied.sent_room;
        marks_long = tied.marks_long;
        labels_marks_long = length-set s.evaluator.marks i true ∙ tied.labels_marks_long;
      }

  pub deliver_keeps : (i : ℕ) → stands s (Deliver i) ≡ true → refusal s K bytes (Deliver i) ≡ None
      → Tied K F bytes seed (by_deliver s (marked s.evaluator i) (set s.labels i (sent_label s K i))) x
  deliver_keeps i standing free =
      let f = input_free s.evaluator (open_copy bytes) (allowed (state_of s.evaluator) DeliverCall) (length s.labels) i 0 free in
      let below = f.there in
      let sizes = ap (λ z. z.inputs) tied.evaluator_sizes in
      let garbler_sizes = ap (λ z. z.inputs) tied.garbler_sizes in
      let low : ltb i s.garbler.sizes.inputs ≡ true = lt-ltb i s.garbler.sizes.inputs (omega arith) in
      subst (λ (l : L). Tied K F bytes seed (by_deliver s (marked s.evaluator i) (set s.labels i l)) x)
      (ap (λ (q : Bool). cond q (places K s.sent i) K.zero) (sym low)) (sent_keeps i standing free)
