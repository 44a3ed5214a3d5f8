use Rattle.std.proofs.Common.{◌≡◌}
use Rattle.sha256.specs.Digest.{hashed}
use Rattle.sha256.proofs.absorb.Given as goal

abbrev pub invariant-loop-block : goal.invariant-loop-block
invariant-loop-block l = l.state ≡ hashed l.initial.state l.bytes l.block-index
