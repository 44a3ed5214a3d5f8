use Rattle.std.proofs.Common.{◌*◌, ◌-◌, ◌^◌}
use Rattle.tables.specs.Level.{bases, Numbered}
use Rattle.tables.specs.Ran.{Ran}
use Rattle.tables.proofs.random.pick_all.Given as goal

abbrev pub invariant-loop-p : goal.invariant-loop-p
invariant-loop-p g l =
    let F = g.H.LabelHash.means l.initial.h in
    Numbered g.L.Label.kind F l.gate l.m l.p l.offset (bases g.L.Label.kind l.offset l.zeros) l.nums
    × Ran F (g.H.LabelHash.means l.h) (g.H.LabelHash.calls l.initial.h) (g.H.LabelHash.calls l.h) (2 * 2 ^ l.p - 2)
