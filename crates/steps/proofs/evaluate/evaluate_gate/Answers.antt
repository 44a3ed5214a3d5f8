use Rattle.std.proofs.Common.{List, sym, ap, ◌∙◌, ap₂, arith}
use Rattle.hashes.specs.Count.{counted}
use Rattle.circuit.specs.Parts.{Parts}
use Rattle.circuit.specs.Lent.{parts_in, GateAt}
use Rattle.circuit.specs.declared.gate.Gate.{Gate}
use Rattle.circuit.proofs.GateParts.{gate_makes}
use Rattle.material.specs.Size.{bytes_of}
use Rattle.tables.specs.Gate.{evaluator_calls}
use Rattle.labels.specs.Lists.{places}
use Rattle.steps.proofs.Arms.{grown_as, reads_made, room_for, two_operands, xor_labels, and_labels, table_labels, half, xor_calls, and_calls, table_calls, table_bytes}
use Rattle.steps.proofs.evaluate.evaluate_gate.Goals as goal

pub xor_wire-requires-clause-order : goal.xor_wire-requires-clause-order
xor_wire-requires-clause-order g c =
    two_operands c.in-Xor.operands _ c.in-Xor.ensures.2 (reads_made c.args.circuit c.args.g _ c.requires.there c.requires.made (Gate.Xor c.in-Xor.operands) c.in-Xor.ensures)

pub xor_wire-requires-clause-room : goal.xor_wire-requires-clause-room
xor_wire-requires-clause-room g c =
    let room = room_for c.args.circuit c.args.g _ c.requires.there c.requires.made (Gate.Xor c.in-Xor.operands) _ c.in-Xor.ensures c.requires.room in
    omega arith

pub evaluate_and-requires-clause-order : goal.evaluate_and-requires-clause-order
evaluate_and-requires-clause-order g c =
    two_operands c.in-And.operands _ c.in-And.ensures.2 (reads_made c.args.circuit c.args.g _ c.requires.there c.requires.made (Gate.And c.in-And.operands) c.in-And.ensures)

pub evaluate_and-requires-clause-room : goal.evaluate_and-requires-clause-room
evaluate_and-requires-clause-room g c =
    let room = room_for c.args.circuit c.args.g _ c.requires.there c.requires.made (Gate.And c.in-And.operands) _ c.in-And.ensures c.requires.room in
    omega arith

pub evaluate_table-requires-clause-order : goal.evaluate_table-requires-clause-order
evaluate_table-requires-clause-order g c = reads_made c.args.circuit c.args.g _ c.requires.there c.requires.made (Gate.Table c.in-Table.n c.in-Table.m c.in-Table.operands c.in-Table.rows) c.in-Table.ensures

pub evaluate_table-requires-clause-room : goal.evaluate_table-requires-clause-room
evaluate_table-requires-clause-room g c =
    let room = room_for c.args.circuit c.args.g _ c.requires.there c.requires.made (Gate.Table c.in-Table.n c.in-Table.m c.in-Table.operands c.in-Table.rows) _ c.in-Table.ensures c.requires.room in
    omega arith

pub evaluate_table-requires-clause-part : goal.evaluate_table-requires-clause-part
evaluate_table-requires-clause-part g c =
    let K = g.L.Label.kind in
    let p : Parts = parts_in c.args.circuit.arrays in
    let at : GateAt p c.args.g (Gate.Table c.in-Table.n c.in-Table.m c.in-Table.operands c.in-Table.rows) = c.in-Table.ensures in
    let h = half p c.args.g K (places K c.args.wires.now.values.now) (g.H.LabelHash.means c.args.h.now) _ _ c.in-Table.operands c.in-Table.rows at _ _ c.from-gate.ensures c.from.ensures in
    c.requires.part ∙ table_bytes p c.args.g K.width _ _ c.in-Table.operands c.in-Table.rows at ∙ ap₂ (bytes_of K.width) (sym h) (sym c.from.ensures)

pub returns-in-Xor-clause-grown : goal.returns-in-Xor-clause-grown
returns-in-Xor-clause-grown g c =
    let K = g.L.Label.kind in
    let F = g.H.LabelHash.means c.args.h.now in
    let p : Parts = parts_in c.args.circuit.arrays in
    let ws : List g.row.L.Denot = c.args.wires.now.values.now in
    grown_as _ _ 1 _ _ (places K _) ws _ c.requires.made (gate_makes p c.args.g (Gate.Xor c.in-Xor.operands) c.in-Xor.ensures) (xor_labels p c.args.g K (places K ws) F c.in-Xor.operands c.in-Xor.ensures c.args.material.now) c.xor_wire.ensures.grown

pub returns-in-Xor-clause-count : goal.returns-in-Xor-clause-count
returns-in-Xor-clause-count g c =
    let few = g.met.H.LabelHash.fits c.args.h.now in
    let none = (xor_calls (parts_in c.args.circuit.arrays) c.args.g c.in-Xor.operands c.in-Xor.ensures).1 in
    omega arith

pub returns-in-And-clause-grown : goal.returns-in-And-clause-grown
returns-in-And-clause-grown g c =
    let K = g.L.Label.kind in
    let F = g.H.LabelHash.means c.args.h.now in
    let p : Parts = parts_in c.args.circuit.arrays in
    let ws : List g.row.L.Denot = c.args.wires.now.values.now in
    grown_as _ _ 1 _ _ (places K _) ws _ c.requires.made (gate_makes p c.args.g (Gate.And c.in-And.operands) c.in-And.ensures) (and_labels p c.args.g K (places K ws) F c.in-And.operands c.in-And.ensures _ c.from-gate.ensures c.args.material.now) c.evaluate_and.ensures.grown

pub returns-in-And-clause-count : goal.returns-in-And-clause-count
returns-in-And-clause-count g c =
    c.evaluate_and.ensures.count ∙ ap (counted (g.H.LabelHash.calls c.args.h.now)) (sym (and_calls (parts_in c.args.circuit.arrays) c.args.g c.in-And.operands c.in-And.ensures).1)

pub returns-in-Table-clause-grown : goal.returns-in-Table-clause-grown
returns-in-Table-clause-grown g c =
    let K = g.L.Label.kind in
    let F = g.H.LabelHash.means c.args.h.now in
    let p : Parts = parts_in c.args.circuit.arrays in
    let ws : List g.row.L.Denot = c.args.wires.now.values.now in
    let gate : Gate = Gate.Table c.in-Table.n c.in-Table.m c.in-Table.operands c.in-Table.rows in
    let at : GateAt p c.args.g gate = c.in-Table.ensures in
    let made = table_labels p c.args.g K (places K ws) F c.in-Table.n c.in-Table.m c.in-Table.operands c.in-Table.rows at _ _ c.from-gate.ensures c.from.ensures c.args.material.now in
    grown_as _ _ _ _ _ (places K _) ws _ c.requires.made (c.from.ensures ∙ gate_makes p c.args.g gate at) (λ j l. ap (λ (xs : List g.row.L.Denot). places K xs j) made) c.evaluate_table.ensures.grown

pub returns-in-Table-clause-count : goal.returns-in-Table-clause-count
returns-in-Table-clause-count g c =
    let K = g.L.Label.kind in
    let F = g.H.LabelHash.means c.args.h.now in
    let p : Parts = parts_in c.args.circuit.arrays in
    let ws : List g.row.L.Denot = c.args.wires.now.values.now in
    let h = half p c.args.g K (places K ws) F c.in-Table.n c.in-Table.m c.in-Table.operands c.in-Table.rows c.in-Table.ensures _ _ c.from-gate.ensures c.from.ensures in
    c.evaluate_table.ensures.count ∙ ap (counted (g.H.LabelHash.calls c.args.h.now)) (ap₂ evaluator_calls h c.from.ensures ∙ sym (table_calls p c.args.g _ _ c.in-Table.operands c.in-Table.rows c.in-Table.ensures).1)
