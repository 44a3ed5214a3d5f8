-- The calls of a settlement one after the other, with a line for each. Assumes nothing.
use Rattle.std.specs.Prelude.{◌≡◌, ℕ, suc, ◌<◌, List}
use Rattle.labels.specs.Kind.{Kind}
use Rattle.settlement.specs.State.{State}
use Rattle.settlement.specs.Lines.{call_at, line_at}
use Rattle.settlement.specs.Made.{Step}
use Rattle.settlement.specs.declared.call.Call.{Call}
use Rattle.settlement.specs.declared.line.Line.{Line}

module _ {L : Type 0} (K : Kind L) (F E : L → ℕ → L) (bytes : List ℕ) (calls : List Call) (lines : List (Line L)) (n : ℕ) where
  -- each of the first n calls leads from one state to the next; its line has the answer and both counts after it
  pub record Follows (at : ℕ → State L) : Type 0 where
    pub step : (k : ℕ) → k < n → Step K F E bytes (at k) (call_at calls k) (line_at lines k).answer (at (suc k))
    pub garbler_counts : (k : ℕ) → k < n → (line_at lines k).garbler_count ≡ (at (suc k)).garbler_count
    pub evaluator_counts : (k : ℕ) → k < n → (line_at lines k).evaluator_count ≡ (at (suc k)).evaluator_count

  -- they lead from first to last, by some states
  pub record Followed (first last : State L) : Type 0 where
    pub at : ℕ → State L
    pub starts : at 0 ≡ first
    pub ends : at n ≡ last
    pub follows : Follows at
