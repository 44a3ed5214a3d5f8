use Rattle.std.proofs.Common.{◌≡◌, false, get_or}
use Rattle.labels.specs.Numbers.{number}
use Rattle.labels.specs.Words.{word_at}
use Rattle.plain.proofs.rows.row_number.Given as goal

abbrev pub invariant-loop-j : goal.invariant-loop-j
invariant-loop-j l = l.row ≡ number l.j (λ i. get_or l.wires.values.now (word_at l.operands i) false)
