use Rattle.parties.proofs.Marking.{lowest_not}
use Rattle.evaluator.proofs.record.Evaluator.state.Goals as goal

pub returns-in-Some : goal.returns-in-Some
returns-in-Some c =
    let m = lowest_not c.args.self.now.progress.side.marks _ _ c.in-Some.ensures.lowest in
    let began = c.in-Some.ensures.begun in
    rw (began, m)
