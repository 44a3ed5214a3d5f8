use Rattle.std.proofs.Common.{◌+◌, ◌-◌, ◌^◌, get_or}
use Rattle.labels.specs.Kind.{times}
use Rattle.tables.specs.Level.{Holds}
use Rattle.tables.proofs.Filling.{TailKept}
use Rattle.tables.specs.Material.{row_at}
use Rattle.tables.specs.Ran.{Ran}
use Rattle.labels.specs.Lists.{places}
use Rattle.tables.specs.Table.{masked}
use Rattle.tables.proofs.evaluate_levels.evaluate_level.Given as goal

abbrev pub invariant-loop-j : goal.invariant-loop-j
invariant-loop-j g l =
    let K = g.L.Label.kind in
    let F = g.H.LabelHash.means l.initial.h in
    Holds K l.j (λ j. K.xor (places K l.initial.new j) (K.xor (masked K F l.level.gate l.level.l (2 ^ (l.level.l - 1)) (λ i. get_or l.nums i 0) l.level.key (K.colour l.level.key) (places K l.v) j) (times K (K.colour l.level.key) (row_at K l.material (l.level.row + j))))) l.new
    × TailKept K l.j l.initial.new l.new
    × Ran F (g.H.LabelHash.means l.h) (g.H.LabelHash.calls l.initial.h) (g.H.LabelHash.calls l.h) l.j
