-- What the parties' calls leave, as a call of the settlement. Assumes nothing.
use Rattle.std.proofs.Common.{◌≡◌, ℕ, ◌-◌, ◌+◌, ◌*◌, List, ◌++◌, length, take, drop, replicate, min, Some, None, Option, ap, ap₂, ◌∙◌, sym, arith}
use Rattle.std.proofs.lemmas.List.{take_min}
use Rattle.labels.specs.Kind.{Kind}
use Rattle.hashes.specs.Count.{counted}
use Rattle.circuit.specs.Parts.{parts_of}
use Rattle.circuit.specs.Gates.{form_of}
use Rattle.circuit.specs.Material.{gate_bytes}
use Rattle.circuit.specs.declared.refusal.Refusal.{Refusal}
use Rattle.gates.specs.Bytes.{laid}
use Rattle.labels.specs.Lists.{places}
use Rattle.steps.specs.Gate.{garble_calls, gate_material}
use Rattle.parties.specs.Refusing.{garble_refusal}
use Rattle.garbler.specs.Garbling.{Garbled}
use Rattle.settlement.specs.State.{State, by_garble}
use Rattle.settlement.specs.Made.{Made}
use Rattle.settlement.specs.declared.call.Call.TheVariants.{Garble}
use Rattle.settlement.specs.declared.line.Answer.TheVariants as Answers
use Rattle.settlement.proofs.Lending.{drop_min}

-- no call is both refused and accepted
pub not_both : {X : Type 0} (o : Option Refusal) (why : Refusal) → o ≡ Some why → o ≡ None → X
not_both o why e f = absurd (let z : ◌≡◌ {A = ℕ} 0 1 = cc in omega arith)

module _ {L : Type 0} (K : Kind L) (F E : L → ℕ → L) (bytes : List ℕ) (s : State L) (n m n' m' : ℕ) (en : n' ≡ min n (length s.scratch)) (em : m' ≡ min m (length s.material)) where
  scratch_is : take n' s.scratch ≡ take n s.scratch
  scratch_is = ap (λ (k : ℕ). take k s.scratch) en ∙ take_min n s.scratch

  material_is : take m' s.material ≡ take m s.material
  material_is = ap (λ (k : ℕ). take k s.material) em ∙ take_min m s.material

  refusal_is : garble_refusal s.garbler bytes K (length s.zeros) (length (take n' s.scratch)) (length (take m' s.material)) ≡ garble_refusal s.garbler bytes K (length s.zeros) (length (take n s.scratch)) (length (take m s.material))
  refusal_is = (λ i. garble_refusal s.garbler bytes K (length s.zeros) (length (scratch_is i)) (length (material_is i)))

  pub garble_accepted : (t : State L) (bits written : ℕ) (part : List ℕ) (clear : List L)
      → garble_refusal s.garbler bytes K (length s.zeros) (length (take n' s.scratch)) (length (take m' s.material)) ≡ None
      → Garbled K F (parts_of bytes) s.seed s.offset s.garbler t.garbler bits s.zeros t.zeros (take m' s.material) part (take n' s.scratch) clear
      → written ≡ t.garbler.bytes - s.garbler.bytes
      → t.garbler_count ≡ counted s.garbler_count (garble_calls (parts_of bytes) s.garbler.next)
      → t ≡ by_garble s t.garbler t.zeros (part ++ drop m' s.material) (clear ++ drop n' s.scratch) t.garbler_count
      → Made K F E bytes (Garble n m) s (Answers.Garbled bits written) t
  garble_accepted t bits written part clear free g ew ec et =
      let ns = ap (λ (k : ℕ). drop k s.scratch) en ∙ drop_min n s.scratch in
      let ms = ap (λ (k : ℕ). drop k s.material) em ∙ drop_min m s.material in
      let b = gate_bytes (8 * K.width) (form_of (parts_of bytes) s.garbler.next) in
      let far : t.garbler.bytes ≡ s.garbler.bytes + b = ap (λ z. z.bytes) g.side_is in
      let w : written ≡ b = omega arith in
      record {
        refused = λ why e. not_both _ why (refusal_is ∙ e) free;
        accepted = λ _. record {
          answer = ap₂ Answers.Garbled g.bits_are w;
          wires = g.wires;
          leaves = et ∙ (λ i. by_garble s (g.side_is i) t.zeros
              ((g.material_is ∙ ap (laid s.garbler.bytes (gate_material (parts_of bytes) s.garbler.next K (places K s.zeros) F s.seed s.offset)) material_is) i ++ ms i)
              ((g.scratch_is ∙ ap (λ (xs : List L). replicate (length xs) K.zero) scratch_is) i ++ ns i)
              (ec i));
        };
      }

  pub garble_refused : (t : State L) (why : Refusal)
      → garble_refusal s.garbler bytes K (length s.zeros) (length (take n' s.scratch)) (length (take m' s.material)) ≡ Some why
      → t ≡ s → Made K F E bytes (Garble n m) s (Answers.Refused why) t
  garble_refused t why e et = record {
    refused = λ w f. (ap Answers.Refused (let q : Some why ≡ Some w = sym e ∙ refusal_is ∙ f in cc), et);
    accepted = λ f. not_both _ why e (refusal_is ∙ f);
  }
