use Rattle.std.proofs.Common.{List, sym, ap, ◌∙◌, ap₂, arith}
use Rattle.std.proofs.lemmas.List.{nil_from_length}
use Rattle.hashes.specs.Count.{counted}
use Rattle.circuit.specs.Parts.{Parts}
use Rattle.circuit.specs.Lent.{parts_in, GateAt}
use Rattle.circuit.specs.declared.gate.Gate.{Gate}
use Rattle.circuit.proofs.GateParts.{gate_makes}
use Rattle.material.specs.Size.{bytes_of}
use Rattle.tables.specs.Gate.{garbler_calls}
use Rattle.labels.specs.Lists.{places}
use Rattle.steps.proofs.Arms.{grown_as, reads_made, room_for, two_operands, xor_zeros, and_zeros, table_zeros, half, xor_calls, and_calls, table_calls, table_bytes, xor_material, and_material, table_material, xor_bytes}
use Rattle.steps.proofs.garble.garble_gate.Goals as goal

pub xor_wire-requires-clause-order : goal.xor_wire-requires-clause-order
xor_wire-requires-clause-order g c =
    two_operands c.in-Xor.operands _ c.in-Xor.ensures.2 (reads_made c.args.circuit c.args.g _ c.requires.there c.requires.made (Gate.Xor c.in-Xor.operands) c.in-Xor.ensures)

pub xor_wire-requires-clause-room : goal.xor_wire-requires-clause-room
xor_wire-requires-clause-room g c =
    let room = room_for c.args.circuit c.args.g _ c.requires.there c.requires.made (Gate.Xor c.in-Xor.operands) _ c.in-Xor.ensures c.requires.room in
    omega arith

pub garble_and-requires-clause-order : goal.garble_and-requires-clause-order
garble_and-requires-clause-order g c =
    two_operands c.in-And.operands _ c.in-And.ensures.2 (reads_made c.args.circuit c.args.g _ c.requires.there c.requires.made (Gate.And c.in-And.operands) c.in-And.ensures)

pub garble_and-requires-clause-room : goal.garble_and-requires-clause-room
garble_and-requires-clause-room g c =
    let room = room_for c.args.circuit c.args.g _ c.requires.there c.requires.made (Gate.And c.in-And.operands) _ c.in-And.ensures c.requires.room in
    omega arith

pub garble_table-requires-clause-order : goal.garble_table-requires-clause-order
garble_table-requires-clause-order g c = reads_made c.args.circuit c.args.g _ c.requires.there c.requires.made (Gate.Table c.in-Table.n c.in-Table.m c.in-Table.operands c.in-Table.rows) c.in-Table.ensures

pub garble_table-requires-clause-room : goal.garble_table-requires-clause-room
garble_table-requires-clause-room g c =
    let room = room_for c.args.circuit c.args.g _ c.requires.there c.requires.made (Gate.Table c.in-Table.n c.in-Table.m c.in-Table.operands c.in-Table.rows) _ c.in-Table.ensures c.requires.room in
    omega arith

pub garble_table-requires-clause-part : goal.garble_table-requires-clause-part
garble_table-requires-clause-part g c =
    let K = g.L.Label.kind in
    let p : Parts = parts_in c.args.circuit.arrays in
    let at : GateAt p c.args.g (Gate.Table c.in-Table.n c.in-Table.m c.in-Table.operands c.in-Table.rows) = c.in-Table.ensures in
    let h = half p c.args.g K (places K c.args.wires.now.values.now) (g.H.LabelHash.means c.args.h.now) _ _ c.in-Table.operands c.in-Table.rows at _ _ c.from-gate.ensures c.from-m.ensures in
    c.requires.part ∙ table_bytes p c.args.g K.width _ _ c.in-Table.operands c.in-Table.rows at ∙ ap₂ (bytes_of K.width) (sym h) (sym c.from-m.ensures)

pub returns-in-Xor-clause-grown : goal.returns-in-Xor-clause-grown
returns-in-Xor-clause-grown g c =
    let K = g.L.Label.kind in
    let F = g.H.LabelHash.means c.args.h.now in
    let p : Parts = parts_in c.args.circuit.arrays in
    let ws : List g.row.L.Denot = c.args.wires.now.values.now in
    grown_as _ _ 1 _ _ (places K _) ws _ c.requires.made (gate_makes p c.args.g (Gate.Xor c.in-Xor.operands) c.in-Xor.ensures) (xor_zeros p c.args.g K (places K ws) F c.in-Xor.operands c.in-Xor.ensures c.args.secrets.seed c.args.secrets.offset) c.xor_wire.ensures.grown

pub returns-in-Xor-clause-material : goal.returns-in-Xor-clause-material
returns-in-Xor-clause-material g c =
    let K = g.L.Label.kind in
    let F = g.H.LabelHash.means c.args.h.now in
    let p : Parts = parts_in c.args.circuit.arrays in
    let ws : List g.row.L.Denot = c.args.wires.now.values.now in
    nil_from_length c.args.material.now (c.requires.part ∙ xor_bytes p c.args.g K.width c.in-Xor.operands c.in-Xor.ensures) ∙ xor_material p c.args.g K (places K ws) F c.in-Xor.operands c.in-Xor.ensures c.args.secrets.seed c.args.secrets.offset

pub returns-in-Xor-clause-count : goal.returns-in-Xor-clause-count
returns-in-Xor-clause-count g c =
    let few = g.met.H.LabelHash.fits c.args.h.now in
    let none = (xor_calls (parts_in c.args.circuit.arrays) c.args.g c.in-Xor.operands c.in-Xor.ensures).0 in
    omega arith

pub returns-in-And-clause-grown : goal.returns-in-And-clause-grown
returns-in-And-clause-grown g c =
    let K = g.L.Label.kind in
    let F = g.H.LabelHash.means c.args.h.now in
    let p : Parts = parts_in c.args.circuit.arrays in
    let ws : List g.row.L.Denot = c.args.wires.now.values.now in
    grown_as _ _ 1 _ _ (places K _) ws _ c.requires.made (gate_makes p c.args.g (Gate.And c.in-And.operands) c.in-And.ensures) (and_zeros p c.args.g K (places K ws) F c.in-And.operands c.in-And.ensures _ c.from-gate.ensures c.args.secrets.seed c.args.secrets.offset) c.garble_and.ensures.grown

pub returns-in-And-clause-material : goal.returns-in-And-clause-material
returns-in-And-clause-material g c =
    let K = g.L.Label.kind in
    let F = g.H.LabelHash.means c.args.h.now in
    let p : Parts = parts_in c.args.circuit.arrays in
    let ws : List g.row.L.Denot = c.args.wires.now.values.now in
    c.garble_and.ensures.material ∙ and_material p c.args.g K (places K ws) F c.in-And.operands c.in-And.ensures _ c.from-gate.ensures c.args.secrets.seed c.args.secrets.offset

pub returns-in-And-clause-count : goal.returns-in-And-clause-count
returns-in-And-clause-count g c =
    c.garble_and.ensures.count ∙ ap (counted (g.H.LabelHash.calls c.args.h.now)) (sym (and_calls (parts_in c.args.circuit.arrays) c.args.g c.in-And.operands c.in-And.ensures).0)

pub returns-in-Table-clause-grown : goal.returns-in-Table-clause-grown
returns-in-Table-clause-grown g c =
    let K = g.L.Label.kind in
    let F = g.H.LabelHash.means c.args.h.now in
    let p : Parts = parts_in c.args.circuit.arrays in
    let ws : List g.row.L.Denot = c.args.wires.now.values.now in
    let gate : Gate = Gate.Table c.in-Table.n c.in-Table.m c.in-Table.operands c.in-Table.rows in
    let at : GateAt p c.args.g gate = c.in-Table.ensures in
    let made = table_zeros p c.args.g K (places K ws) F c.in-Table.n c.in-Table.m c.in-Table.operands c.in-Table.rows at _ _ c.from-gate.ensures c.from-m.ensures c.args.secrets.seed c.args.secrets.offset in
    grown_as _ _ _ _ _ (places K _) ws _ c.requires.made (c.from-m.ensures ∙ gate_makes p c.args.g gate at) (λ j l. ap (λ (xs : List g.row.L.Denot). places K xs j) made) c.garble_table.ensures.grown

pub returns-in-Table-clause-material : goal.returns-in-Table-clause-material
returns-in-Table-clause-material g c =
    let K = g.L.Label.kind in
    let F = g.H.LabelHash.means c.args.h.now in
    let p : Parts = parts_in c.args.circuit.arrays in
    let ws : List g.row.L.Denot = c.args.wires.now.values.now in
    c.garble_table.ensures.material ∙ table_material p c.args.g K (places K ws) F c.in-Table.n c.in-Table.m c.in-Table.operands c.in-Table.rows c.in-Table.ensures _ _ c.from-gate.ensures c.from-m.ensures c.args.secrets.seed c.args.secrets.offset

pub returns-in-Table-clause-count : goal.returns-in-Table-clause-count
returns-in-Table-clause-count g c =
    let K = g.L.Label.kind in
    let F = g.H.LabelHash.means c.args.h.now in
    let p : Parts = parts_in c.args.circuit.arrays in
    let ws : List g.row.L.Denot = c.args.wires.now.values.now in
    let h = half p c.args.g K (places K ws) F c.in-Table.n c.in-Table.m c.in-Table.operands c.in-Table.rows c.in-Table.ensures _ _ c.from-gate.ensures c.from-m.ensures in
    c.garble_table.ensures.count ∙ ap (counted (g.H.LabelHash.calls c.args.h.now)) (ap₂ garbler_calls h c.from-m.ensures ∙ sym (table_calls p c.args.g _ _ c.in-Table.operands c.in-Table.rows c.in-Table.ensures).0)
