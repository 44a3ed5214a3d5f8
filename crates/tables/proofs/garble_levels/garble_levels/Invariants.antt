use Rattle.std.proofs.Common.{◌≡◌, ℕ, ◌+◌, ◌-◌, ◌*◌, ◌^◌, ◌<◌, false}
use Rattle.tables.specs.Level.{bases, Holds}
use Rattle.tables.specs.Material.{row_bytes}
use Rattle.tables.specs.Ran.{Ran}
use Rattle.labels.specs.Lists.{places}
use Rattle.tables.specs.Table.{sum, halved, given as part, mask_row}
use Rattle.tables.proofs.garble_levels.garble_levels.Given as goal

abbrev pub invariant-loop-d : goal.invariant-loop-d
invariant-loop-d g l =
    let K = g.L.Label.kind in
    let F = g.H.LabelHash.means l.initial.h in
    let B = bases K l.offset l.zeros in
    let V = places K l.initial.v in
    Holds K (2 ^ (l.n - l.d)) (halved K l.n V l.d) l.v
    × Holds K l.m (λ j. K.xor (places K l.initial.new j) (sum K l.d (λ d. part K F l.gate l.m l.n l.offset B V d false j))) l.new
    × ((d : ℕ) → d < l.d → (j : ℕ) → j < l.m → row_bytes K ((l.n - 1) + (d * l.m + j)) l.material ≡ K.bytes (mask_row K F l.gate l.m l.n l.offset B V d j))
    × ((i : ℕ) → i < (l.n - 1) → row_bytes K i l.material ≡ row_bytes K i l.initial.material)
    × Ran F (g.H.LabelHash.means l.h) (g.H.LabelHash.calls l.initial.h) (g.H.LabelHash.calls l.h) (2 * (l.d * l.m))
