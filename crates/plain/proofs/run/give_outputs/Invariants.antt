use Rattle.std.proofs.Common.{◌≡◌, ℕ, ◌<◌, false, get_or}
use Rattle.labels.specs.Numbers.{digit}
use Rattle.labels.specs.Words.{word_at}
use Rattle.plain.proofs.run.give_outputs.Given as goal

abbrev pub invariant-loop-o : goal.invariant-loop-o
invariant-loop-o l = (k : ℕ) → k < l.o → get_or l.outputs k 0 ≡ digit (get_or l.wires.values.now (word_at l.list k) false)
