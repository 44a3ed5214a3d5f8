use Rattle.std.proofs.Common.{arith}
use Rattle.parties.proofs.Stepping.{made_few}
use Rattle.garbler.proofs.garbling.garble_next.Goals as goal

pub advance-requires-clause-made : goal.advance-requires-clause-made
advance-requires-clause-made g c =
    let few = made_few g.L.Label.kind c.args.progress.now.side c.args.circuit c.args.bits _ _ _ _ c.requires c.garble_gate.ensures.made in
    omega arith
