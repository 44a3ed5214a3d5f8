use Rattle.tables.proofs.Buckets.{Added}
use Rattle.tables.proofs.wires.add_four.Given as goal

abbrev pub invariant-loop-g : goal.invariant-loop-g
invariant-loop-g g l = let K = g.L.Label.kind in Added K l.g l.n l.x l.initial.buckets l.buckets
