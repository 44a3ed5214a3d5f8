-- A run of a settlement. Assumes nothing.
use Rattle.std.specs.Prelude.{◌≡◌, ℕ, ◌+◌, ◌^◌, ◌<◌, ◌≤◌, true, false, List, length, None}
use Rattle.labels.specs.Kind.{Kind}
use Rattle.hashes.specs.Count.{counted}
use Rattle.hashes.specs.Draws.{offset, input_zero}
use Rattle.circuit.specs.Parts.{parts_of}
use Rattle.circuit.specs.Gates.{wires_in}
use Rattle.circuit.specs.Check.{circuit_refusal}
use Rattle.memory.specs.Copy.{open_copy}
use Rattle.parties.specs.Side.{started}
use Rattle.labels.specs.Lists.{places}
use Rattle.settlement.specs.State.{State}
use Rattle.settlement.specs.Followed.{Follows}
use Rattle.settlement.specs.declared.call.Call.{Call}
use Rattle.settlement.specs.declared.line.Line.{Line}

-- what a settlement is about, its calls and their lines, and what both sides hold before each call and after the last
pub record Settlement (L : Type 0) : Type 0 where
  pub circuit : List ℕ
  -- the functions of both hashes, and the counts they came with
  pub garbler_hash : L → ℕ → L
  pub evaluator_hash : L → ℕ → L
  pub garbler_came : ℕ
  pub evaluator_came : ℕ
  pub calls : List Call
  pub lines : List (Line L)
  pub at : ℕ → State L

-- from what both sides hold before the first call
abbrev pub settlement_from : {L : Type 0} → State L → (L → ℕ → L) → (L → ℕ → L) → List ℕ → List Call → List (Line L) → (ℕ → State L) → Settlement L
settlement_from old F E bytes calls lines at = record {
  circuit = bytes;
  garbler_hash = F;
  evaluator_hash = E;
  garbler_came = old.garbler_count;
  evaluator_came = old.evaluator_count;
  calls = calls;
  lines = lines;
  at = at;
}

module _ {L : Type 0} (K : Kind L) (r : Settlement L) where
  -- after an accepted open and an accepted join with the open copy
  pub record Begun : Type 0 where
    pub passes : circuit_refusal r.circuit ≡ None
    pub garbler : (r.at 0).garbler ≡ started (parts_of r.circuit).sizes (wires_in (parts_of r.circuit))
    pub evaluator : (r.at 0).evaluator ≡ started (parts_of (open_copy r.circuit)).sizes (wires_in (parts_of (open_copy r.circuit)))
    pub offset_is : (r.at 0).offset ≡ offset r.garbler_hash (r.at 0).seed K
    pub coloured : K.colour (r.at 0).offset ≡ true
    pub inputs : (i : ℕ) → i < (parts_of r.circuit).sizes.inputs → places K (r.at 0).zeros i ≡ input_zero r.garbler_hash (r.at 0).seed i
    pub zeros_room : wires_in (parts_of r.circuit) ≤ length (r.at 0).zeros
    pub labels_room : wires_in (parts_of (open_copy r.circuit)) ≤ length (r.at 0).labels
    pub sent_room : 256 ≤ length (r.at 0).sent
    pub none_shown : (r.at 0).shown ≡ None
    pub none_decoded : (r.at 0).decoded ≡ false
    pub garbler_count : (r.at 0).garbler_count ≡ counted r.garbler_came (1 + (parts_of r.circuit).sizes.inputs)
    pub evaluator_count : (r.at 0).evaluator_count ≡ r.evaluator_came
    pub evaluator_fits : r.evaluator_came < 2 ^ 64

  -- and then n calls
  pub record Ran (n : ℕ) : Type 0 where
    pub begun : Begun
    pub follows : Follows K r.garbler_hash r.evaluator_hash r.circuit r.calls r.lines n r.at
