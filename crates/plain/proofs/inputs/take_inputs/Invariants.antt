use Rattle.std.proofs.Common.{◌≡◌}
use Rattle.plain.specs.Plain.{bit_in}
use Rattle.wires.specs.Wires.{Filled}
use Rattle.plain.proofs.inputs.take_inputs.Given as goal

abbrev pub invariant-loop-bit : goal.invariant-loop-bit
invariant-loop-bit l =
    (l.wires.made ≡ l.bit-index)
    × Filled l.bit-index (bit_in l.bits) l.initial.wires.values.now l.wires.values.now
    × (l.wires.values.ghost_name ≡ l.initial.wires.values.ghost_name)
