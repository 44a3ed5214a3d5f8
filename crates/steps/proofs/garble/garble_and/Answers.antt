use Rattle.std.proofs.Common.{◌≡◌, ◌++◌, ap, ◌∙◌, ap₂}
use Rattle.gates.specs.Half.{garbled}
use Rattle.steps.specs.Gate.{label_on}
use Rattle.steps.proofs.Laid.{laid_two}
use Rattle.steps.proofs.garble.garble_and.Goals as goal

pub returns-clause-material : goal.returns-clause-material
returns-clause-material g c =
    let K = g.L.Label.kind in
    let F = g.H.LabelHash.means c.args.h.now in
    let on = label_on K c.args.wires.now.values.now c.args.operands.now in
    let e : c.garble-t.result ≡ garbled K F c.args.gate c.args.offset (on 0) (on 1) =
    c.garble-t.ensures.answer ∙ ap₂ (λ (x y : g.row.L.Denot). garbled K F c.args.gate c.args.offset x y) c.operand-a.ensures c.operand-b.ensures in
    laid_two K.width c.width.result _ _ c.args.material.now _ _ (K.bytes_long c.garble-t.result.0) (K.bytes_long c.garble-t.result.1) c.requires.part c.width.ensures c.put.ensures c.put-2.ensures
    ∙ ap (λ (r : g.row.L.Denot × g.row.L.Denot × g.row.L.Denot). K.bytes r.0 ++ K.bytes r.1) e
