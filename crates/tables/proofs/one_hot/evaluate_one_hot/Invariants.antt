use Rattle.std.proofs.Common.{◌≡◌, ◌+◌, ◌-◌, ◌^◌}
use Rattle.tables.specs.Level.{Holds}
use Rattle.tables.specs.Material.{one_hot_rows}
use Rattle.tables.specs.Ran.{Ran}
use Rattle.labels.specs.Lists.{places}
use Rattle.tables.specs.Table.{seen, colours}
use Rattle.tables.proofs.one_hot.evaluate_one_hot.Given as goal

abbrev pub invariant-loop-k : goal.invariant-loop-k
invariant-loop-k g l =
    let K = g.L.Label.kind in
    let F = g.H.LabelHash.means l.initial.h in
    let E = places K l.labels in
    (l.x ≡ colours K (l.k + 1) E)
    × Holds K (2 ^ (l.k + 1)) (seen K F l.gate (one_hot_rows K l.material) E (l.k + 1)) l.v
    × Ran F (g.H.LabelHash.means l.h) (g.H.LabelHash.calls l.initial.h) (g.H.LabelHash.calls l.h) (2 ^ (l.k + 1) - 1 - (l.k + 1))
