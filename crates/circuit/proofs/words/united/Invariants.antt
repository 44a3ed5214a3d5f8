use Rattle.std.proofs.Common.{◌≡◌}
use Rattle.labels.specs.Words.{word_at}
use Rattle.circuit.specs.Words.{united}
use Rattle.circuit.proofs.words.united.Given as goal

abbrev pub invariant-loop-k : goal.invariant-loop-k
invariant-loop-k l = l.all ≡ united (word_at l.bytes) l.k
