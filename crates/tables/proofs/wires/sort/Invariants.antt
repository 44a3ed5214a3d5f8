use Rattle.std.proofs.Common.{◌≡◌, ℕ, ◌*◌, ◌/◌, ◌%◌, ◌<◌, length, get_or}
use Rattle.tables.specs.Level.{bucket}
use Rattle.labels.specs.Lists.{places}
use Rattle.tables.proofs.wires.sort.Given as goal

abbrev pub invariant-loop-n : goal.invariant-loop-n
invariant-loop-n g l =
    let K = g.L.Label.kind in
    (i : ℕ) → i < 64 → places K l.buckets i ≡ bucket K (4 * (i / 16)) 16 (length l.yielded) (λ i. get_or l.nums i 0) (places K l.v) (i % 16)
