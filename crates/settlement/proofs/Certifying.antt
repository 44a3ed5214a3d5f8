-- A certify that stands tells the plain bit, and meets no label that is neither of the two. Assumes nothing.
use Rattle.std.proofs.Common.{◌≡◌, ◌≢◌, ℕ, ◌<◌, ◌≤◌, Bool, true, false, cond, not, ◌&&◌, ◌||◌, ltb, List, [], ◌∷◌, length, Some, None, Option, refl, sym, ap, ap₂, ◌∙◌, inl, inr, arith}
use Rattle.std.proofs.lemmas.Bool.{cases_Bool, lt-ltb}
use Rattle.std.proofs.lemmas.Bool.Decides.{nat_tests}
use Rattle.labels.specs.Kind.{Kind, differs, times}
use Rattle.labels.specs.Longs.{and_right}
use Rattle.hashes.specs.Draws.{offset}
use Rattle.circuit.specs.Parts.{Parts, parts_of}
use Rattle.circuit.specs.Gates.{output_of}
use Rattle.circuit.specs.Check.{circuit_refusal}
use Rattle.circuit.specs.Refusals.{first_of, or_else}
use Rattle.circuit.specs.declared.refusal.Refusal.{Refusal}
use Rattle.circuit.specs.declared.refusal.Refusal.TheVariants.{Turn, Memory, Number, Foreign}
use Rattle.plain.specs.Plain.{plain_bit}
use Rattle.steps.specs.Whole.{zero_label}
use Rattle.labels.specs.Lists.{places}
use Rattle.memory.specs.Copy.{open_copy}
use Rattle.laws.specs.Opened.{opened}
use Rattle.laws.proofs.Order.{made_up}
use Rattle.laws.proofs.Opening.{parts_open}
use Rattle.parties.specs.Turns.{gates_left}
use Rattle.parties.specs.Refusing.{is_foreign, output_refusal}
use Rattle.settlement.specs.State.{State}
use Rattle.settlement.specs.Stands.{stands, refusal, output_label}
use Rattle.settlement.specs.declared.call.Call.TheVariants.{Certify}
use Rattle.settlement.specs.declared.line.Answer.{Answer}
use Rattle.settlement.specs.declared.line.Answer.TheVariants.{NotMade, Refused, Garbled, Encoded, Delivered, Evaluated, Coloured, Decoded, Certified}
use Rattle.settlement.specs.Lines.{is_accepted}
use Rattle.settlement.specs.Made.{Step}
use Rattle.settlement.proofs.Circuits.{outputs_made}
use Rattle.settlement.proofs.Facts.{output_free}
use Rattle.settlement.proofs.Turning.{true_false, not_true}
use Rattle.settlement.proofs.Between.{ruled, Tied}

flipped : {X : Type 0} (p : Bool) → p ≡ differs p true → X
flipped true e = true_false true refl e
flipped false e = true_false true refl (sym e)

pub or_true : (a b : Bool) → b ≡ true → (a || b) ≡ true
or_true true b e = refl
or_true false b e = e

-- of the two labels on a wire with the zero label z
module _ {L : Type 0} (K : Kind L) (Δ z : L) (coloured : K.colour Δ ≡ true) where
  other : K.same (K.xor z Δ) z ≡ false
  other = elim (cases_Bool (K.same (K.xor z Δ) z)) [
    | inl e ↦ flipped (K.colour z) (sym (ap K.colour (K.same_only (K.xor z Δ) z e)) ∙ K.colours z Δ ∙ ap (differs (K.colour z)) coloured)
    | inr e ↦ e
  ]

  pub tells : (b : Bool) → not (K.same (K.xor z (times K b Δ)) z) ≡ b
  tells true = ap not other
  tells false = ap (λ (l : L). not (K.same l z)) (K.right z) ∙ ap not (K.same_self z)

  pub known : (b : Bool) → is_foreign K Δ z (K.xor z (times K b Δ)) ≡ false
  known true = ap not (or_true (K.same (K.xor z Δ) z) (K.same (K.xor z Δ) (K.xor z Δ)) (K.same_self (K.xor z Δ)))
  known false =
      ap (λ (l : L). not (K.same l z || K.same l (K.xor z Δ))) (K.right z)
      ∙ ap (λ (q : Bool). not (q || K.same z (K.xor z Δ))) (K.same_self z)

module _ {L : Type 0} (K : Kind L) (F : L → ℕ → L) (bytes : List ℕ) (seed : L) (passes : circuit_refusal bytes ≡ None) (coloured : K.colour (offset F seed K) ≡ true)
    (s : State L) (x : ℕ → Bool) (tied : Tied K F bytes seed s x) (k : ℕ) (decoded : s.decoded ≡ true)
    (free : output_refusal s.garbler bytes (not s.garbler.ended && not (gates_left s.garbler)) (length s.zeros) k ≡ None) where
  abbrev d : Parts
  d = parts_of bytes

  abbrev wire : ℕ
  wire = output_of d k

  there : k < d.sizes.outputs
  there =
      let f = output_free s.garbler bytes (not s.garbler.ended && not (gates_left s.garbler)) (length s.zeros) k free in
      let below = f.there in
      let sizes = ap (λ z. z.outputs) tied.garbler_sizes in
      omega arith

  zero_is : places K s.zeros wire ≡ zero_label K F seed d wire
  zero_is =
      let f = output_free s.garbler bytes (not s.garbler.ended && not (gates_left s.garbler)) (length s.zeros) k free in
      let none = not_true (gates_left s.garbler) (and_right (not s.garbler.ended) (not (gates_left s.garbler)) f.its_turn) in
      let sizes = ap (λ z. z.gates) tied.garbler_sizes in
      let done : s.garbler.sizes.gates ≤ s.garbler.next = grind (arith, nat_tests) in
      let up = made_up d d.sizes.gates s.garbler.next (omega arith) in
      let made = tied.garbler_made in
      let within = outputs_made bytes passes k there in
      tied.zeros wire (omega arith)

  label_is : output_label s K bytes k ≡ ruled K F bytes seed wire (plain_bit d x wire)
  label_is =
      let p : parts_of (open_copy bytes) ≡ opened d = parts_open bytes passes in
      let finished = tied.finished decoded in
      let over = finished.1 in
      let up = made_up d d.sizes.gates s.evaluator.next over in
      let made = tied.evaluator_made in
      let within = outputs_made bytes passes k there in
      let low : ltb k d.sizes.outputs ≡ true = lt-ltb k d.sizes.outputs there in
      (λ i. cond (ltb k (p i).sizes.outputs) (places K s.labels (output_of (p i) k)) K.zero)
      ∙ ap (λ (q : Bool). cond q (places K s.labels wire) K.zero) low
      ∙ tied.evaluated finished.0 wire (omega arith)

  pub not_foreign : is_foreign K s.offset (places K s.zeros wire) (output_label s K bytes k) ≡ false
  not_foreign = (λ i. is_foreign K (tied.offset_is i) (zero_is i) (label_is i)) ∙ known K (offset F seed K) (zero_label K F seed d wire) coloured (plain_bit d x wire)

  pub certify_value : not (K.same (output_label s K bytes k) (places K s.zeros wire)) ≡ plain_bit d x wire
  certify_value = (λ i. not (K.same (label_is i) (zero_is i))) ∙ tells K (offset F seed K) (zero_label K F seed d wire) coloured (plain_bit d x wire)

abbrev is_made : {L : Type 0} → Answer L → Bool
is_made NotMade = false
is_made (Refused why) = true
is_made (Garbled bits bytes) = true
is_made (Encoded label) = true
is_made Delivered = true
is_made (Evaluated bytes) = true
is_made Coloured = true
is_made Decoded = true
is_made (Certified bit) = true

-- so it is refused by what both sides show alone
module _ {L : Type 0} (K : Kind L) (F : L → ℕ → L) (bytes : List ℕ) (seed : L) (passes : circuit_refusal bytes ≡ None) (coloured : K.colour (offset F seed K) ≡ true)
    (s : State L) (x : ℕ → Bool) (tied : Tied K F bytes seed s x) (k : ℕ) (decoded : s.decoded ≡ true) where
  abbrev shown : Option Refusal
  shown = output_refusal s.garbler bytes (not s.garbler.ended && not (gates_left s.garbler)) (length s.zeros) k

  by_shown : (o : Option Refusal) → shown ≡ o → refusal s K bytes (Certify k) ≡ shown
  by_shown (Some why) e = ap (λ (o : Option Refusal). or_else o (first_of ((is_foreign K s.offset (places K s.zeros (output_of (parts_of bytes) k)) (output_label s K bytes k), Foreign) ∷ []))) e ∙ sym e
  by_shown None e =
      ap₂ (λ (o : Option Refusal) (q : Bool). or_else o (first_of ((q, Foreign) ∷ []))) e (not_foreign K F bytes seed passes coloured s x tied k decoded e) ∙ sym e

  pub certify_public : refusal s K bytes (Certify k) ≡ shown
  certify_public = by_shown shown refl

  -- what both sides show does not know of a label
  shown_known : (o : Option Refusal) (a b d : Bool) → o ≡ None → or_else (or_else o (first_of ((a, Turn) ∷ []))) (first_of ((b, Memory) ∷ (d, Number) ∷ [])) ≢ Some Foreign
  shown_known (Some why) a b d p e = absurd (let z : ◌≡◌ {A = ℕ} 0 1 = cc in omega arith)
  shown_known None true b d p e = absurd (let z : ◌≡◌ {A = ℕ} 0 1 = cc in omega arith)
  shown_known None false true d p e = absurd (let z : ◌≡◌ {A = ℕ} 0 1 = cc in omega arith)
  shown_known None false false true p e = absurd (let z : ◌≡◌ {A = ℕ} 0 1 = cc in omega arith)
  shown_known None false false false p e = absurd (let z : ◌≡◌ {A = ℕ} 0 1 = cc in omega arith)

  pub certify_known : refusal s K bytes (Certify k) ≢ Some Foreign
  certify_known e = shown_known (circuit_refusal bytes) _ _ _ passes (sym certify_public ∙ e)

-- so no line of a certify has that refusal
module _ {L : Type 0} (K : Kind L) (F : L → ℕ → L) (bytes : List ℕ) (seed : L) (passes : circuit_refusal bytes ≡ None) (coloured : K.colour (offset F seed K) ≡ true)
    (s : State L) (x : ℕ → Bool) (tied : Tied K F bytes seed s x) (k : ℕ) (E : L → ℕ → L) (a : Answer L) (t : State L) (step : Step K F E bytes s (Certify k) a t) (e : a ≡ Refused Foreign) where
  judged : stands s (Certify k) ≡ true → (o : Option Refusal) → refusal s K bytes (Certify k) ≡ o → ⊥
  judged standing None free = true_false true refl (sym (ap is_accepted ((step.made standing).accepted free).answer) ∙ ap is_accepted e)
  judged standing (Some why) f =
      let same : ◌≡◌ {A = Answer L} (Refused why) (Refused Foreign) = sym ((step.made standing).refused why f).0 ∙ e in
      let it : why ≡ Foreign = cc in
      certify_known K F bytes seed passes coloured s x tied k standing (f ∙ ap Some it)

  pub answer_known : ⊥
  answer_known = elim (cases_Bool (stands s (Certify k))) [
    | inl standing ↦ judged standing (refusal s K bytes (Certify k)) refl
    | inr away ↦ true_false true refl (ap is_made (sym e ∙ (step.unmade away).0))
  ]
