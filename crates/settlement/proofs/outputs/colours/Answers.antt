use Rattle.std.proofs.Common.{refl}
use Rattle.settlement.specs.State.{held_by}
use Rattle.settlement.proofs.Lending.{part_same}
use Rattle.settlement.proofs.Answering.{colours_accepted, colours_refused}
use Rattle.settlement.proofs.outputs.colours.Goals as goal

pub returns-in-Ok-clause-made : goal.returns-in-Ok-clause-made
returns-in-Ok-clause-made g c = λ F E evaluator m n.
    colours_accepted g.L.Label.kind F E c.args.circuit.now
    (held_by c.args.garbler.now evaluator c.args.lent.now c.args.past.now m n) _
    c.args.length c.min-room.result _ c.min-room.ensures c.in-Ok.ensures.accepted c.in-Ok.ensures.written refl

pub returns-in-Err-clause-made : goal.returns-in-Err-clause-made
returns-in-Err-clause-made g c = λ F E evaluator m n.
    let whole = part_same c.min-room.result c.args.lent.now.colours.now c.colours.new.colours c.in-Err.ensures.same in
    colours_refused g.L.Label.kind F E c.args.circuit.now
    (held_by c.args.garbler.now evaluator c.args.lent.now c.args.past.now m n) _
    c.args.length c.min-room.result c.in-Err.why c.min-room.ensures c.in-Err.ensures.refused (rw whole refl)
