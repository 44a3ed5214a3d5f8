use Rattle.std.proofs.Common.{◌≡◌, ◌+◌, ◌*◌, ◌<◌, length, get_or}
use Rattle.tables.specs.Level.{Packing}
use Rattle.tables.proofs.pack.pack.Given as goal

abbrev pub invariant-loop-f : goal.invariant-loop-f
invariant-loop-f l =
    Packing (length l.fs) l.m (λ i. get_or l.fs i 0) l.held.at l.held.count l.held.bits l.bytes
    × (8 * l.held.at + l.held.count ≡ l.f-index * l.m)
    × (l.held.count < 8)
