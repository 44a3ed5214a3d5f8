-- An accepted opening and joining tie both sides. Assumes nothing.
use Rattle.std.proofs.Common.{◌≡◌, ℕ, true, false, [], length, take, replicate, refl, sym, ap, ◌∙◌, inl, inr, arith}
use Rattle.std.proofs.lemmas.Bool.{cases_lt}
use Rattle.std.proofs.lemmas.List.{length-replicate, get_or-replicate, get_or_past}
use Rattle.labels.specs.Kind.{Kind}
use Rattle.circuit.specs.Parts.{Parts, parts_of}
use Rattle.circuit.specs.Gates.{made_before, wires_in}
use Rattle.steps.specs.Whole.{material_before}
use Rattle.parties.proofs.Marking.{each_marked}
use Rattle.settlement.proofs.Circuits.{material_none}
use Rattle.laws.proofs.Order.{made_zero}
use Rattle.laws.proofs.Zeros.{zero_input}
use Rattle.laws.proofs.Opening.{parts_open}
use Rattle.parties.specs.declared.side.Side.{Side}
use Rattle.parties.specs.Marks.{is_marked}
use Rattle.parties.specs.Side.{started}
use Rattle.settlement.specs.State.{State}
use Rattle.settlement.specs.Runs.{Settlement, Begun}
use Rattle.settlement.specs.Claims.{given}
use Rattle.settlement.proofs.Between.{Tied}
use Rattle.settlement.proofs.Turning.{true_false}

unmarked : (i : ℕ) → is_marked (replicate 256 false) i ≡ false
unmarked i = elim (cases_lt i 256) [ inl h ↦ get_or-replicate 256 i false false h | inr h ↦ get_or_past (replicate 256 false) i false (let e = length-replicate 256 false in omega arith) ]

module _ {L : Type 0} (K : Kind L) (r : Settlement L) (b : Begun K r) where
  abbrev s : State L
  s = r.at 0

  abbrev c : Parts
  c = parts_of r.circuit

  no_mark : {X : Type 0} (side : Side) (sizes : _) (w : ℕ) → side ≡ started sizes w → (i : ℕ) → is_marked side.marks i ≡ true → X
  no_mark side sizes w e i mk = true_false (is_marked side.marks i) mk (ap (λ z. is_marked z.marks i) e ∙ unmarked i)

  pub begun_tied : Tied K r.garbler_hash r.circuit (r.at 0).seed (r.at 0) (given r 0)
  begun_tied =
      let made : s.garbler.made ≡ c.sizes.inputs = ap (λ z. z.made) b.garbler in
      let next : s.garbler.next ≡ 0 = ap (λ z. z.next) b.garbler in
      let read : s.garbler.bytes ≡ 0 = ap (λ z. z.bytes) b.garbler in
      let sizes : s.evaluator.sizes ≡ c.sizes = ap (λ z. z.sizes) b.evaluator ∙ ap (λ (q : Parts). q.sizes) (parts_open r.circuit b.passes) in
      let made_e : s.evaluator.made ≡ c.sizes.inputs = ap (λ z. z.made) b.evaluator ∙ ap (λ (q : Parts). q.sizes.inputs) (parts_open r.circuit b.passes) in
      let next_e : s.evaluator.next ≡ 0 = ap (λ z. z.next) b.evaluator in
      let read_e : s.evaluator.bytes ≡ 0 = ap (λ z. z.bytes) b.evaluator in
      let none : (k : ℕ) → k ≡ 0 → [] ≡ material_before K r.garbler_hash s.seed c k = λ k e. sym (material_none K r.garbler_hash s.seed c) ∙ ap (material_before K r.garbler_hash s.seed c) (sym e) in
      record {
        seed_is = refl;
        offset_is = b.offset_is;
        garbler_sizes = ap (λ z. z.sizes) b.garbler;
        garbler_made = made ∙ sym (made_zero c) ∙ ap (made_before c) (sym next);
        garbler_bytes = read ∙ ap length (none s.garbler.next next);
        zeros = λ w l. b.inputs w (omega arith) ∙ sym (zero_input K r.garbler_hash s.seed c w (omega arith));
        written = ap (λ (k : ℕ). take k s.material) read ∙ none s.garbler.next next;
        sent = λ i mk. no_mark s.garbler c.sizes (wires_in c) b.garbler i mk;
        evaluator_sizes = sizes;
        evaluator_made = made_e ∙ sym (made_zero c) ∙ ap (made_before c) (sym next_e);
        evaluator_bytes = read_e ∙ ap length (none s.evaluator.next next_e);
        after_encode = λ i l mk. no_mark s.evaluator _ _ b.evaluator i mk;
        delivered = λ i l mk. no_mark s.evaluator _ _ b.evaluator i mk;
        waits = λ _. next_e;
        evaluated = λ all w l. no_mark s.evaluator _ _ b.evaluator w (each_marked s.evaluator.marks c.sizes.inputs all w (omega arith));
        shown = λ n e. absurd (let q = sym b.none_shown ∙ e in let z : ◌≡◌ {A = ℕ} 0 1 = cc in omega arith);
        finished = λ e. true_false s.decoded e b.none_decoded;
        sent_room = b.sent_room;
        marks_long = ap (λ z. length z.marks) b.garbler ∙ length-replicate 256 false;
        labels_marks_long = ap (λ z. length z.marks) b.evaluator ∙ length-replicate 256 false;
      }
