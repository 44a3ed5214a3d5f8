use Rattle.std.proofs.Common.{◌≡◌, ℕ, ◌<◌, get_or}
use Rattle.tables.specs.Ran.{Ran}
use Rattle.tables.specs.Table.{picked}
use Rattle.tables.proofs.random.pick.Given as goal

abbrev pub invariant-loop-i : goal.invariant-loop-i
invariant-loop-i g l =
    let F = g.H.LabelHash.means l.initial.h in
    ((i : ℕ) → i < l.i → get_or l.nums i 0 ≡ picked g.L.Label.kind F l.gate l.m l.w l.key i)
    × Ran F (g.H.LabelHash.means l.h) (g.H.LabelHash.calls l.initial.h) (g.H.LabelHash.calls l.h) l.i
