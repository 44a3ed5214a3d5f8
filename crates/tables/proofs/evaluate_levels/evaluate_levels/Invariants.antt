use Rattle.std.proofs.Common.{◌≡◌, ◌+◌, ◌-◌, ◌*◌, ◌^◌, length}
use Rattle.tables.specs.Level.{Holds}
use Rattle.tables.specs.Material.{row_at}
use Rattle.tables.specs.Ran.{Ran}
use Rattle.labels.specs.Lists.{places}
use Rattle.tables.specs.Table.{sum, halved, taken}
use Rattle.tables.proofs.evaluate_levels.evaluate_levels.Given as goal

abbrev pub invariant-loop-d : goal.invariant-loop-d
invariant-loop-d g l =
    let K = g.L.Label.kind in
    let F = g.H.LabelHash.means l.initial.h in
    let V = places K l.initial.v in
    (length l.numbers ≡ 128)
    × Holds K (2 ^ (l.n - l.d)) (halved K l.n V l.d) l.v
    × Holds K l.m (λ j. K.xor (places K l.initial.new j) (sum K l.d (λ d. taken K F l.gate l.m l.n (λ d j. row_at K l.material ((l.n - 1) + (d * l.m + j))) (places K l.labels) V d j))) l.new
    × Ran F (g.H.LabelHash.means l.h) (g.H.LabelHash.calls l.initial.h) (g.H.LabelHash.calls l.h) ((2 ^ l.n - 2 ^ (l.n - l.d)) + l.d * l.m)
