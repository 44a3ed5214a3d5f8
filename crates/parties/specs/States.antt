-- What the evaluator does next, by its state and the call. Assumes nothing.
use Rattle.std.specs.Prelude.{Bool, true, false, cond}
use Rattle.parties.specs.declared.side.Side.{Side}
use Rattle.parties.specs.declared.state.State.{State}
use Rattle.parties.specs.declared.state.State.TheVariants.{Collecting, Evaluating, Finished, Ended}
use Rattle.parties.specs.declared.state.EvaluatorCall.{EvaluatorCall}
use Rattle.parties.specs.declared.state.EvaluatorCall.TheVariants.{Join, Deliver, Evaluate, Decode, Wipe}
use Rattle.parties.specs.Marks.{all_marked}
use Rattle.parties.specs.Turns.{gates_left}

abbrev pub state_of : Side → State
state_of s =
    cond s.ended Ended
    (cond (all_marked s.marks s.sizes.inputs) (cond (gates_left s) Evaluating Finished)
    Collecting)

-- whether it is the call's turn
abbrev pub allowed : State → EvaluatorCall → Bool
allowed Collecting Join = false
allowed Collecting Deliver = true
allowed Collecting Evaluate = false
allowed Collecting Decode = false
allowed Collecting Wipe = true
allowed Evaluating Join = false
allowed Evaluating Deliver = true
allowed Evaluating Evaluate = true
allowed Evaluating Decode = false
allowed Evaluating Wipe = true
allowed Finished Join = false
allowed Finished Deliver = true
allowed Finished Evaluate = false
allowed Finished Decode = true
allowed Finished Wipe = true
allowed Ended Join = true
allowed Ended Deliver = false
allowed Ended Evaluate = false
allowed Ended Decode = false
allowed Ended Wipe = false
