use Rattle.std.proofs.Common.{refl}
use Rattle.settlement.specs.State.{held_by}
use Rattle.settlement.proofs.Lending.{part_same}
use Rattle.settlement.proofs.Making.{garble_accepted, garble_refused}
use Rattle.settlement.proofs.next_gate.garble.Goals as goal

pub returns-in-Ok-clause-made : goal.returns-in-Ok-clause-made
returns-in-Ok-clause-made g c = λ E evaluator shown count.
    let e = c.in-Ok.ensures.secrets in
    let b = c.bytes_written-before.ensures in
    let a = c.bytes_written.ensures in
    garble_accepted g.L.Label.kind _ E c.args.circuit.now
    (held_by c.args.garbler.now evaluator c.args.lent.now shown (g.G.LabelHash.calls c.args.h.now) count)
    c.args.scratch c.args.material c.min-scratch.result c.min-material.result c.min-scratch.ensures c.min-material.ensures
    _ _ _ _ _ c.in-Ok.ensures.accepted c.in-Ok.ensures.garbled (rw (a, b) refl) c.in-Ok.ensures.count (rw e refl)

pub returns-in-Err-clause-made : goal.returns-in-Err-clause-made
returns-in-Err-clause-made g c = λ E evaluator shown count.
    let side = c.in-Err.ensures.same in
    let wires = c.in-Err.ensures.wires in
    let hash = c.in-Err.ensures.hash in
    let scratch = part_same c.min-scratch.result c.args.lent.now.scratch.now c.garble-written.new.scratch c.in-Err.ensures.scratch in
    let material = part_same c.min-material.result c.args.lent.now.material.now c.garble-written.new.material c.in-Err.ensures.material in
    garble_refused g.L.Label.kind _ E c.args.circuit.now
    (held_by c.args.garbler.now evaluator c.args.lent.now shown (g.G.LabelHash.calls c.args.h.now) count)
    c.args.scratch c.args.material c.min-scratch.result c.min-material.result c.min-scratch.ensures c.min-material.ensures
    _ c.in-Err.why c.in-Err.ensures.refused (rw (side, wires, hash, scratch, material) refl)
