use Rattle.std.proofs.Common.{◌≡◌, ℕ, ◌+◌, ◌*◌, ◌<◌}
use Rattle.tables.proofs.Filling.{TailKept}
use Rattle.labels.specs.Lists.{places}
use Rattle.tables.specs.Table.{sum}
use Rattle.tables.proofs.wires.take_bit.Given as goal

abbrev pub invariant-loop-k : goal.invariant-loop-k
invariant-loop-k g l =
    let K = g.L.Label.kind in
    let old = places K l.initial.buckets in
    (l.all ≡ sum K l.k (λ k. old (l.a + (2 * k + 1))))
    × ((k : ℕ) → k < l.k → places K l.buckets (l.a + k) ≡ K.xor (old (l.a + 2 * k)) (old (l.a + (2 * k + 1))))
    × TailKept K (l.a + l.k) l.initial.buckets l.buckets
