use Rattle.std.proofs.Common.{◌≡◌}
use Rattle.circuit.specs.Lent.{parts_in}
use Rattle.circuit.specs.Gates.{made_before}
use Rattle.circuit.proofs.gate.wires_before.Given as goal

abbrev pub invariant-loop-k : goal.invariant-loop-k
invariant-loop-k l = l.made ≡ made_before (parts_in l.a) l.k
