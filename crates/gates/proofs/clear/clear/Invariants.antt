use Rattle.std.proofs.Common.{◌≡◌, ℕ, ◌<◌, slice_index_or}
use Rattle.gates.proofs.clear.clear.Given as goal

abbrev pub invariant-loop-label : goal.invariant-loop-label
invariant-loop-label g l = let zero = g.L.Label.kind.zero in (k : ℕ) → k < l.label-index → slice_index_or l.labels k zero ≡ zero
