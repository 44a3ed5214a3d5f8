use Rattle.std.proofs.Common.{ℕ, length, take, min, refl, ap, ◌∙◌}
use Rattle.settlement.specs.State.{held_by}
use Rattle.settlement.proofs.Lending.{part_same}
use Rattle.settlement.proofs.Answering.{evaluate_accepted, evaluate_refused}
use Rattle.settlement.proofs.next_gate.evaluate.Goals as goal

pub returns-in-Ok-clause-made : goal.returns-in-Ok-clause-made
returns-in-Ok-clause-made g c = λ F garbler circuit shown count copied far.
    let b = c.bytes_read-before.ensures in
    let a = c.bytes_read.ensures in
    let read = part_same c.min-written.result c.args.lent.now.material.now (take c.min-written.result c.args.lent.now.material.now) refl in
    let few = c.min-written.ensures ∙ ap (λ (k : ℕ). min k (length c.args.lent.now.material.now)) far in
    evaluate_accepted g.L.Label.kind F _ circuit c.args.copy.now copied
    (held_by garbler c.args.evaluator.now c.args.lent.now shown count (g.H.LabelHash.calls c.args.h.now)) _
    c.args.scratch c.min-scratch.result c.min-written.result c.min-scratch.ensures few
    _ _ c.in-Ok.ensures.accepted c.in-Ok.ensures.stepped (rw (a, b) refl) c.in-Ok.ensures.count (rw read refl)

pub returns-in-Err-clause-made : goal.returns-in-Err-clause-made
returns-in-Err-clause-made g c = λ F garbler circuit shown count copied far.
    let side = c.in-Err.ensures.same in
    let wires = c.in-Err.ensures.wires in
    let hash = c.in-Err.ensures.hash in
    let scratch = part_same c.min-scratch.result c.args.lent.now.scratch.now c.evaluate-evaluated.new.scratch c.in-Err.ensures.scratch in
    let read = part_same c.min-written.result c.args.lent.now.material.now (take c.min-written.result c.args.lent.now.material.now) refl in
    let few = c.min-written.ensures ∙ ap (λ (k : ℕ). min k (length c.args.lent.now.material.now)) far in
    evaluate_refused g.L.Label.kind F _ circuit c.args.copy.now copied
    (held_by garbler c.args.evaluator.now c.args.lent.now shown count (g.H.LabelHash.calls c.args.h.now)) _
    c.args.scratch c.min-scratch.result c.min-written.result c.min-scratch.ensures few
    c.in-Err.why c.in-Err.ensures.refused (rw (side, wires, hash, scratch, read) refl)
