use Rattle.std.proofs.Common.{◌≡◌, ℕ, ◌<◌}
use Rattle.labels.specs.Lists.{places}
use Rattle.steps.specs.Gate.{label_on}
use Rattle.steps.proofs.operands.read_operands.Given as goal

abbrev pub invariant-loop-j : goal.invariant-loop-j
invariant-loop-j g l =
    (i : ℕ) → i < l.j → places g.L.Label.kind l.out i ≡ label_on g.L.Label.kind l.wires.values.now l.operands i
