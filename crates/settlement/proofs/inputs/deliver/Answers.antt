use Rattle.std.proofs.Common.{refl}
use Rattle.settlement.specs.State.{held_by}
use Rattle.settlement.proofs.Answering.{deliver_accepted, deliver_refused}
use Rattle.settlement.proofs.inputs.deliver.Goals as goal

pub returns-in-Ok-clause-made : goal.returns-in-Ok-clause-made
returns-in-Ok-clause-made g c = λ F E circuit shown m n copied.
    let stored = c.in-Ok.ensures.stored in
    let marks = c.in-Ok.ensures.marked in
    deliver_accepted g.L.Label.kind F E circuit c.args.copy.now copied
    (held_by c.args.garbler.now c.args.evaluator.now c.args.lent.now shown m n) _
    c.args.input _ c.in-Ok.ensures.accepted c.sent_label-label.ensures (rw (stored, marks) refl)

pub returns-in-Err-clause-made : goal.returns-in-Err-clause-made
returns-in-Err-clause-made g c = λ F E circuit shown m n copied.
    let side = c.in-Err.ensures.same in
    let wires = c.in-Err.ensures.wires in
    deliver_refused g.L.Label.kind F E circuit c.args.copy.now copied
    (held_by c.args.garbler.now c.args.evaluator.now c.args.lent.now shown m n) _
    c.args.input c.in-Err.why c.in-Err.ensures.refused (rw (side, wires) refl)
