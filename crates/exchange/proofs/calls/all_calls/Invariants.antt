use Rattle.std.proofs.Common.{◌≡◌}
use Rattle.labels.specs.Lists.{listed}
use Rattle.exchange.specs.Course.{course}
use Rattle.exchange.proofs.calls.all_calls.Given as goal

abbrev pub invariant-loop-k : goal.invariant-loop-k
invariant-loop-k l = l.calls.items ≡ listed l.k (course l.s l.material l.bits)
