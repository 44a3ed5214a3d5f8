use Rattle.std.proofs.Common.{get_or, length}
use Rattle.tables.specs.Level.{Holds}
use Rattle.labels.specs.Lists.{places}
use Rattle.tables.specs.Table.{chosen}
use Rattle.tables.proofs.wires.choose_each.Given as goal

abbrev pub invariant-loop-j : goal.invariant-loop-j
invariant-loop-j g l = let K = g.L.Label.kind in Holds K l.j (λ j. chosen K j (length l.v) (λ i. get_or l.nums i 0) (places K l.v)) l.new
