use Rattle.std.proofs.Common.{◌≡◌, ◌*◌, ◌^◌, ◌≤◌}
use Rattle.circuit.specs.Lent.{parts_in}
use Rattle.circuit.specs.Check.{bits_in, bytes_in}
use Rattle.circuit.proofs.passed.Circuit.totals.Given as goal

abbrev pub invariant-loop-g : goal.invariant-loop-g
invariant-loop-g g l =
    (l.bits ≡ bits_in g.L.Label.kind (parts_in l.self.arrays) l.g)
    × (l.bytes ≡ bytes_in g.L.Label.kind (parts_in l.self.arrays) l.g)
    × (l.bits ≤ l.g * 2 ^ 23)
    × (l.bytes ≤ l.g * 2 ^ 23)
