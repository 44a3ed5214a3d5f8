use Rattle.std.proofs.Common.{◌≡◌}
use Rattle.labels.specs.Lists.{places}
use Rattle.tables.specs.Table.{colours}
use Rattle.tables.proofs.number.colours.Given as goal

abbrev pub invariant-loop-k : goal.invariant-loop-k
invariant-loop-k g l = let K = g.L.Label.kind in l.number ≡ colours K l.k (places K l.labels)
