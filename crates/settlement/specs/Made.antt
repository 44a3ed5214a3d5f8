-- What becomes of a call: not made, refused or accepted. Assumes nothing.
use Rattle.std.specs.Prelude.{◌≡◌, ℕ, true, false, List, Some, None}
use Rattle.labels.specs.Kind.{Kind}
use Rattle.circuit.specs.declared.refusal.Refusal.{Refusal}
use Rattle.settlement.specs.State.{State}
use Rattle.settlement.specs.Stands.{stands, refusal}
use Rattle.settlement.specs.Accepted.{Accepted}
use Rattle.settlement.specs.declared.call.Call.{Call}
use Rattle.settlement.specs.declared.lent.Lent.{Lent}
use Rattle.settlement.specs.declared.line.Answer.{Answer}
use Rattle.settlement.specs.declared.line.Answer.TheVariants.{NotMade, Refused}

-- a call that stands: refused, or accepted
pub record Made {L : Type 0} (K : Kind L) (F E : L → ℕ → L) (bytes : List ℕ) (call : Call) (s : State L) (a : Answer L) (t : State L) : Type 0 where
  pub refused : (why : Refusal) → refusal s K bytes call ≡ Some why → (a ≡ Refused why) × (t ≡ s)
  pub accepted : refusal s K bytes call ≡ None → Accepted K bytes s a t F E call

-- one call of a settlement
pub record Step {L : Type 0} (K : Kind L) (F E : L → ℕ → L) (bytes : List ℕ) (s : State L) (call : Call) (a : Answer L) (t : State L) : Type 0 where
  pub unmade : stands s call ≡ false → (a ≡ NotMade) × (t ≡ s)
  pub made : stands s call ≡ true → Made K F E bytes call s a t

-- the same memories are lent still
pub record SameLoans {L : Type 0} (old new : Lent L) : Type 0 where
  pub zeros : new.zeros.ghost_name ≡ old.zeros.ghost_name
  pub labels : new.labels.ghost_name ≡ old.labels.ghost_name
  pub sent : new.sent.ghost_name ≡ old.sent.ghost_name
  pub scratch : new.scratch.ghost_name ≡ old.scratch.ghost_name
  pub material : new.material.ghost_name ≡ old.material.ghost_name
  pub colours : new.colours.ghost_name ≡ old.colours.ghost_name
  pub outputs : new.outputs.ghost_name ≡ old.outputs.ghost_name
