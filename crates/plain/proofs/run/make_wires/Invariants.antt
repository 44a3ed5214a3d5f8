use Rattle.std.proofs.Common.{◌≡◌}
use Rattle.circuit.specs.Gates.{made_before}
use Rattle.circuit.specs.Lent.{parts_in}
use Rattle.plain.specs.Plain.{bit_in, plain_rule}
use Rattle.wires.specs.Wires.{Filled, wire_after}
use Rattle.plain.proofs.run.make_wires.Given as goal

abbrev pub invariant-loop-g : goal.invariant-loop-g
invariant-loop-g l =
    (l.wires.made ≡ made_before (parts_in l.c.arrays) l.g)
    × Filled l.wires.made (wire_after (made_before (parts_in l.c.arrays)) (plain_rule (parts_in l.c.arrays)) (bit_in l.bits) l.g) l.initial.wires.values.now l.wires.values.now
    × (l.wires.values.ghost_name ≡ l.initial.wires.values.ghost_name)
