-- A call leaves all as it was, or is accepted. Assumes nothing.
use Rattle.std.proofs.Common.{◌≡◌, ℕ, Bool, true, false, List, Some, None, Option, refl, ap, inl, inr}
use Rattle.std.proofs.lemmas.Bool.{cases_Bool}
use Rattle.labels.specs.Kind.{Kind}
use Rattle.circuit.specs.declared.refusal.Refusal.{Refusal}
use Rattle.settlement.specs.State.{State}
use Rattle.settlement.specs.Lines.{is_accepted}
use Rattle.settlement.specs.Stands.{stands, refusal}
use Rattle.settlement.specs.Accepted.{Accepted}
use Rattle.settlement.specs.Made.{Step}
use Rattle.settlement.specs.Claims.{noted}
use Rattle.settlement.specs.declared.call.Call.{Call}
use Rattle.settlement.specs.declared.call.Call.TheVariants.{Garble, Encode, Deliver, Evaluate, Colours, Decode, Certify}
use Rattle.settlement.specs.declared.line.Answer.{Answer}
use Rattle.settlement.proofs.Turning.{true_false}

pub data Outcome {L : Type 0} (K : Kind L) (F E : L → ℕ → L) (bytes : List ℕ) (s : State L) (call : Call) (a : Answer L) (t : State L) : Type 0 where
  stays : is_accepted a ≡ false → t ≡ s → Outcome K F E bytes s call a t
  goes : stands s call ≡ true → refusal s K bytes call ≡ None → Accepted K bytes s a t F E call → Outcome K F E bytes s call a t

by_refusal : {L : Type 0} (K : Kind L) (F E : L → ℕ → L) (bytes : List ℕ) (s : State L) (call : Call) (a : Answer L) (t : State L) → Step K F E bytes s call a t
    → stands s call ≡ true → (o : Option Refusal) → refusal s K bytes call ≡ o → Outcome K F E bytes s call a t
by_refusal K F E bytes s call a t step standing (Some why) e = let r = (step.made standing).refused why e in stays (ap is_accepted r.0) r.1
by_refusal K F E bytes s call a t step standing None e = goes standing e ((step.made standing).accepted e)

pub outcome : {L : Type 0} (K : Kind L) (F E : L → ℕ → L) (bytes : List ℕ) (s : State L) (call : Call) (a : Answer L) (t : State L) → Step K F E bytes s call a t → Outcome K F E bytes s call a t
outcome K F E bytes s call a t step =
    elim (cases_Bool (stands s call)) [
      | inl e ↦ by_refusal K F E bytes s call a t step e (refusal s K bytes call) refl
      | inr e ↦ (let r = step.unmade e in stays (ap is_accepted r.0) r.1)
    ]

-- a call that is not accepted notes nothing
pub not_noted : (call : Call) (x : ℕ → Bool) → noted call false x ≡ x
not_noted (Garble n m) x = refl
not_noted (Encode i b) x = refl
not_noted (Deliver i) x = refl
not_noted (Evaluate n) x = refl
not_noted (Colours n) x = refl
not_noted (Decode n) x = refl
not_noted (Certify o) x = refl

-- an accepted call, by its line
pub accepted_is : {L : Type 0} (K : Kind L) (F E : L → ℕ → L) (bytes : List ℕ) (s : State L) (call : Call) (a : Answer L) (t : State L) → Step K F E bytes s call a t → is_accepted a ≡ true
    → (stands s call ≡ true) × (refusal s K bytes call ≡ None) × Accepted K bytes s a t F E call
accepted_is K F E bytes s call a t step taken =
    elim (outcome K F E bytes s call a t step) [
      | stays denied e ↦ true_false (is_accepted a) taken denied
      | goes standing free acc ↦ (standing, free, acc)
    ]
