use Rattle.std.proofs.Common.{◌≡◌, ℕ, ◌+◌, ◌*◌, ◌-◌, ◌^◌, ◌<◌, true, false, get_or}
use Rattle.tables.specs.Level.{Holds}
use Rattle.tables.proofs.Filling.{TailKept}
use Rattle.tables.specs.Material.{row_bytes}
use Rattle.tables.specs.Ran.{Ran}
use Rattle.labels.specs.Lists.{places}
use Rattle.tables.specs.Table.{level}
use Rattle.tables.proofs.garble_levels.garble_level.Given as goal

abbrev pub invariant-loop-j : goal.invariant-loop-j
invariant-loop-j g l =
    let K = g.L.Label.kind in
    let F = g.H.LabelHash.means l.initial.h in
    let zero : ℕ → g.row.L.Denot = level K F l.fn.level.gate l.fn.level.l (2 ^ (l.fn.level.l - 1)) l.fn.offset l.fn.level.key (λ i. get_or l.nums i 0) (places K l.v) false in
    let one : ℕ → g.row.L.Denot = level K F l.fn.level.gate l.fn.level.l (2 ^ (l.fn.level.l - 1)) l.fn.offset l.fn.level.key (λ i. get_or l.nums i 0) (places K l.v) true in
    Holds K l.j (λ j. K.xor (places K l.initial.new j) (zero j)) l.new
    × TailKept K l.j l.initial.new l.new
    × ((j : ℕ) → j < l.j → row_bytes K (l.fn.level.row + j) l.material ≡ K.bytes (K.xor (zero j) (one j)))
    × ((i : ℕ) → i < l.fn.level.row → row_bytes K i l.material ≡ row_bytes K i l.initial.material)
    × Ran F (g.H.LabelHash.means l.h) (g.H.LabelHash.calls l.initial.h) (g.H.LabelHash.calls l.h) (2 * l.j)
