-- The promise of a settlement. Assumes nothing.
use Rattle.std.specs.Prelude.{◌≡◌, ℕ, ◌+◌, ◌<◌, ◌≤◌, not, List, length, None}
use Rattle.labels.specs.Kind.{Kind}
use Rattle.hashes.specs.Count.{counted}
use Rattle.circuit.specs.Parts.{parts_of}
use Rattle.memory.specs.Copy.{open_copy}
use Rattle.parties.specs.Refusing.{garbler_wipe_refusal, evaluator_wipe_refusal}
use Rattle.garbler.specs.Garbling.{Opened}
use Rattle.evaluator.specs.Evaluating.{Joined}
use Rattle.settlement.specs.State.{State}
use Rattle.settlement.specs.Runs.{Settlement, settlement_from, Ran}
use Rattle.settlement.specs.Claims.{Claims, LineClaims}
use Rattle.settlement.specs.declared.call.Call.{Call}
use Rattle.settlement.specs.declared.line.Line.{Line}
use Rattle.settlement.specs.declared.past.Past.{Past}

-- what an accepted open and an accepted join leave: all else stays
pub record Begins {L : Type 0} (K : Kind L) (F : L → ℕ → L) (bytes seed : List ℕ) (old new : State L) : Type 0 where
  pub opened : Opened K F (parts_of bytes) seed new.garbler new.offset new.seed old.zeros new.zeros
  pub joined : Joined K (parts_of (open_copy bytes)) new.evaluator old.labels new.labels
  pub garbler_count : new.garbler_count ≡ counted old.garbler_count (1 + (parts_of bytes).sizes.inputs)
  pub evaluator_count : new.evaluator_count ≡ old.evaluator_count
  pub sent : new.sent ≡ old.sent
  pub scratch : new.scratch ≡ old.scratch
  pub material : new.material ≡ old.material
  pub colours : new.colours ≡ old.colours
  pub outputs : new.outputs ≡ old.outputs
  pub shown : new.shown ≡ old.shown
  pub decoded : new.decoded ≡ old.decoded

module _ {L : Type 0} (K : Kind L) (r : Settlement L) (seed : List ℕ) where
  -- a line for each call, the last state is what is left, and where both hashes have one function all claims hold
  pub record Settled (old last : State L) : Type 0 where
    pub prepared : Begins K r.garbler_hash r.circuit seed old (r.at 0)
    pub ran : Ran K r (length r.calls)
    pub ends : r.at (length r.calls) ≡ last
    pub claims : r.evaluator_hash ≡ r.garbler_hash → (k : ℕ) → k ≤ length r.calls → Claims K r k
    pub lines : r.evaluator_hash ≡ r.garbler_hash → (k : ℕ) → k < length r.calls → LineClaims K r k
    -- both sides can be wiped, so that both tokens can be spent
    pub garbler_wipes : garbler_wipe_refusal last.garbler (length last.zeros) ≡ None
    pub evaluator_wipes : evaluator_wipe_refusal last.evaluator (length last.labels) ≡ None

-- what a settlement that is run leaves, for some states between its calls, and what went from one side to the other
pub record Ended {L : Type 0} (K : Kind L) (F E : L → ℕ → L) (bytes seed : List ℕ) (calls : List Call) (lines : List (Line L)) (old : State L) (last : Past → State L) : Type 0 where
  pub past : Past
  pub at : ℕ → State L
  pub settled : Settled K (settlement_from old F E bytes calls lines at) seed old (last past)
