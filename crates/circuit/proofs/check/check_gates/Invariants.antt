use Rattle.std.proofs.Common.{◌≡◌, ◌≤◌, None}
use Rattle.circuit.specs.Lent.{parts_in}
use Rattle.circuit.specs.Gates.{made_before}
use Rattle.circuit.specs.Check.{gates_refusal}
use Rattle.circuit.proofs.check.check_gates.Given as goal

abbrev pub invariant-loop-g : goal.invariant-loop-g
invariant-loop-g l = (gates_refusal (parts_in l.a) l.g ≡ None) × (l.made ≡ made_before (parts_in l.a) l.g) × (l.made ≤ 1024)
