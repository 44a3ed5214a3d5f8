use Rattle.std.proofs.Common.{arith}
use Rattle.parties.proofs.Stepping.{made_few}
use Rattle.evaluator.proofs.evaluating.evaluate_next.Goals as goal

pub advance-requires-clause-made : goal.advance-requires-clause-made
advance-requires-clause-made g c =
    let few = made_few g.L.Label.kind c.args.progress.now.side c.args.circuit c.args.bits _ _ _ _ c.requires c.evaluate_gate.ensures.made in
    omega arith
