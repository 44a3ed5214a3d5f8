use Rattle.std.proofs.Common.{◌≡◌, length, get_or}
use Rattle.labels.specs.Lists.{places}
use Rattle.tables.specs.Table.{chosen}
use Rattle.tables.proofs.wires.gather.Given as goal

abbrev pub invariant-loop-n : goal.invariant-loop-n
invariant-loop-n g l = let K = g.L.Label.kind in l.all ≡ chosen K l.j (length l.yielded) (λ i. get_or l.nums i 0) (places K l.v)
