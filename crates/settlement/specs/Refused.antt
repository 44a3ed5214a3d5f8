-- When a settlement is refused, and what is then left. Assumes nothing.
use Rattle.std.specs.Prelude.{◌≡◌, ℕ, ◌+◌, ◌||◌, List, [], ◌∷◌, length, replicate, Some, None, Option, nat_lt}
use Rattle.labels.specs.Kind.{Kind}
use Rattle.hashes.specs.Count.{counted}
use Rattle.circuit.specs.Parts.{parts_of}
use Rattle.circuit.specs.Refusals.{first_of, or_else}
use Rattle.circuit.specs.declared.refusal.Refusal.{Refusal}
use Rattle.circuit.specs.declared.refusal.Refusal.TheVariants.{Memory}
use Rattle.memory.specs.Copy.{open_copy, copy_refusal}
use Rattle.parties.specs.declared.side.Side.{Side}
use Rattle.parties.specs.Side.{unused}
use Rattle.parties.specs.Refusing.{open_refusal, join_refusal}
use Rattle.garbler.specs.Garbling.{denied_count}
use Rattle.settlement.specs.State.{State}

-- how much there is of the memories that are the settlement's own, and of the calls
pub record Supply : Type 0 where
  pub calls : ℕ
  pub lines : ℕ
  pub sent : ℕ
  pub copy : ℕ

abbrev pub supply_of : ℕ → ℕ → ℕ → ℕ → Supply
supply_of calls lines sent copy = record { calls = calls; lines = lines; sent = sent; copy = copy }

-- before either side begins: the settlement's own memory, and the open copy
abbrev pub own_refusal : List ℕ → Supply → Option Refusal
own_refusal bytes room =
    or_else (first_of ((nat_lt room.lines room.calls || nat_lt room.sent 256, Memory) ∷ []))
    (copy_refusal bytes room.copy)

-- the first refusal: that, then open, and join with the copy
unfoldable pub settle_refusal : {L : Type 0} → Kind L → (L → ℕ → L) → List ℕ → List ℕ → Side → Side → ℕ → ℕ → Supply → Option Refusal
settle_refusal K F bytes seed garbler evaluator zeros labels room =
    or_else (own_refusal bytes room)
    (or_else (open_refusal garbler bytes K F zeros seed)
    (join_refusal evaluator (open_copy bytes) labels))

module _ {L : Type 0} (s : State L) where
  -- open is denied: the count alone
  abbrev pub by_denied : ℕ → State L
  by_denied count = record s { garbler_count = count }

  -- join is denied: the garbler was open, and is wiped
  abbrev pub by_wiped : Kind L → ℕ → State L
  by_wiped K count = record s { garbler = unused; seed = K.zero; offset = K.zero; zeros = replicate (length s.zeros) K.zero; garbler_count = count }

-- what a settlement that is refused leaves
pub record Denied {L : Type 0} (K : Kind L) (F : L → ℕ → L) (bytes seed : List ℕ) (first : Option Refusal) (why : Refusal) (old new : State L) : Type 0 where
  pub own : first ≡ Some why → new ≡ old
  pub opening : first ≡ None → open_refusal old.garbler bytes K F (length old.zeros) seed ≡ Some why → new ≡ by_denied old (denied_count old.garbler_count why)
  pub joining : first ≡ None → open_refusal old.garbler bytes K F (length old.zeros) seed ≡ None → new ≡ by_wiped old K (counted old.garbler_count (1 + (parts_of bytes).sizes.inputs))
