use Rattle.std.proofs.Common.{◌≡◌, ◌-◌}
use Rattle.tables.specs.Level.{between, Grew}
use Rattle.tables.specs.Ran.{Ran}
use Rattle.labels.specs.Lists.{places}
use Rattle.tables.specs.Table.{hashed}
use Rattle.tables.proofs.one_hot.hash_part.Given as goal

abbrev pub invariant-loop-i : goal.invariant-loop-i
invariant-loop-i g l =
    let K = g.L.Label.kind in
    let F = g.H.LabelHash.means l.initial.h in
    let V = places K l.initial.v in
    Grew K l.w l.a l.i V (hashed K F l.gate l.w V) l.v
    × (l.all ≡ between K l.a l.i (hashed K F l.gate l.w V))
    × Ran F (g.H.LabelHash.means l.h) (g.H.LabelHash.calls l.initial.h) (g.H.LabelHash.calls l.h) (l.i - l.a)
