use Rattle.std.proofs.Common.{◌≡◌, ◌*◌, length}
use Rattle.sha256.specs.Compression.{after}
use Rattle.sha256.proofs.compression.turns.Given as goal

abbrev pub invariant-loop-k : goal.invariant-loop-k
invariant-loop-k l = l.state ≡ after l.fn.start l.fn.words (8 * length l.yielded)
