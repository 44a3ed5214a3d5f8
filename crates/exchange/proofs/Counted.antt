-- A settlement by hashes whose counts begin at 0. Assumes nothing.
use Rattle.std.proofs.Common.{◌≡◌, ℕ, List, Option, subst}
use Rattle.labels.specs.Kind.{Kind}
use Rattle.circuit.specs.declared.refusal.Refusal.{Refusal}
use Rattle.garbler.specs.declared.record.Garbler.{Garbler}
use Rattle.evaluator.specs.declared.record.Evaluator.{Evaluator}
use Rattle.settlement.specs.State.{State, no_past, held_by}
use Rattle.settlement.specs.Refused.{Denied}
use Rattle.settlement.specs.Settled.{Ended}
use Rattle.settlement.specs.declared.call.Call.{Call}
use Rattle.settlement.specs.declared.lent.Lent.{Lent}
use Rattle.settlement.specs.declared.line.Line.{Line}
use Rattle.settlement.specs.declared.past.Past.{Past}

pub ended_from_none : {L : Type 0} (K : Kind L) (F : L → ℕ → L) (bytes seed : List ℕ) (calls : List Call) (lines : List (Line L)) (garbler : Garbler L) (evaluator : Evaluator) (lent : Lent L) (m n : ℕ) (last : Past → State L)
    → m ≡ 0 → n ≡ 0
    → Ended K F F bytes seed calls lines (held_by garbler evaluator lent no_past m n) last
    → Ended K F F bytes seed calls lines (held_by garbler evaluator lent no_past 0 0) last
ended_from_none K F bytes seed calls lines garbler evaluator lent m n last em en e =
    subst (λ (k : ℕ). Ended K F F bytes seed calls lines (held_by garbler evaluator lent no_past 0 k) last) en
    (subst (λ (k : ℕ). Ended K F F bytes seed calls lines (held_by garbler evaluator lent no_past k n) last) em e)

pub denied_from_none : {L : Type 0} (K : Kind L) (F : L → ℕ → L) (bytes seed : List ℕ) (first : Option Refusal) (why : Refusal) (garbler : Garbler L) (evaluator : Evaluator) (lent : Lent L) (m n : ℕ) (new : State L)
    → m ≡ 0 → n ≡ 0
    → Denied K F bytes seed first why (held_by garbler evaluator lent no_past m n) new
    → Denied K F bytes seed first why (held_by garbler evaluator lent no_past 0 0) new
denied_from_none K F bytes seed first why garbler evaluator lent m n new em en e =
    subst (λ (k : ℕ). Denied K F bytes seed first why (held_by garbler evaluator lent no_past 0 k) new) en
    (subst (λ (k : ℕ). Denied K F bytes seed first why (held_by garbler evaluator lent no_past k n) new) em e)
