use Rattle.std.proofs.Common.{take, refl}
use Rattle.settlement.specs.State.{held_by}
use Rattle.settlement.proofs.Lending.{part_same}
use Rattle.settlement.proofs.Answering.{decode_accepted, decode_refused, seen_is}
use Rattle.settlement.proofs.outputs.decode.Goals as goal

pub returns-in-Ok-clause-made : goal.returns-in-Ok-clause-made
returns-in-Ok-clause-made g c = λ F E garbler circuit m n copied.
    let seen = part_same c.min-seen.result c.args.lent.now.colours.now (take c.min-seen.result c.args.lent.now.colours.now) refl in
    decode_accepted g.L.Label.kind F E circuit c.args.copy.now copied
    (held_by garbler c.args.evaluator.now c.args.lent.now c.args.past.now m n) _
    c.args.length c.min-room.result c.min-seen.result c.min-room.ensures
    (seen_is c.args.past.now.shown _ _ c.args.lent.now.colours.now c.unwrap_or.ensures c.min-seen.ensures)
    _ c.in-Ok.ensures.accepted c.in-Ok.ensures.written (rw seen refl)

pub returns-in-Err-clause-made : goal.returns-in-Err-clause-made
returns-in-Err-clause-made g c = λ F E garbler circuit m n copied.
    let seen = part_same c.min-seen.result c.args.lent.now.colours.now (take c.min-seen.result c.args.lent.now.colours.now) refl in
    let whole = part_same c.min-room.result c.args.lent.now.outputs.now c.decode-decoded.new.outputs c.in-Err.ensures.same in
    decode_refused g.L.Label.kind F E circuit c.args.copy.now copied
    (held_by garbler c.args.evaluator.now c.args.lent.now c.args.past.now m n) _
    c.args.length c.min-room.result c.min-seen.result c.min-room.ensures
    (seen_is c.args.past.now.shown _ _ c.args.lent.now.colours.now c.unwrap_or.ensures c.min-seen.ensures)
    c.in-Err.why c.in-Err.ensures.refused (rw (whole, seen) refl)
