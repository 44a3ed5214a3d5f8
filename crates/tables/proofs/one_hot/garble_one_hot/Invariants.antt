use Rattle.std.proofs.Common.{◌≡◌, ℕ, suc, ◌+◌, ◌-◌, ◌^◌, ◌<◌}
use Rattle.tables.specs.Level.{bases, Holds}
use Rattle.tables.specs.Material.{row_bytes}
use Rattle.tables.specs.Ran.{Ran}
use Rattle.tables.specs.Table.{hot, hot_row}
use Rattle.tables.proofs.one_hot.garble_one_hot.Given as goal

abbrev pub invariant-loop-k : goal.invariant-loop-k
invariant-loop-k g l =
    let K = g.L.Label.kind in
    let F = g.H.LabelHash.means l.initial.h in
    let B = bases K l.offset l.zeros in
    Holds K (2 ^ (l.k + 1)) (hot K F l.gate l.offset B (l.k + 1)) l.v
    × ((k : ℕ) → k < l.k → row_bytes K k l.material ≡ K.bytes (hot_row K F l.gate l.offset B (suc k)))
    × Ran F (g.H.LabelHash.means l.h) (g.H.LabelHash.calls l.initial.h) (g.H.LabelHash.calls l.h) (2 ^ (l.k + 1) - 2)
