use Rattle.aes.specs.Columns.{bytes_of}
use Rattle.aes.proofs.Expansion.{IsBegun}
use Rattle.aes.proofs.key_schedule.RoundKeys.of.Given as goal

abbrev pub invariant-loop-i : goal.invariant-loop-i
invariant-loop-i l = IsBegun (bytes_of l.key) l.words l.i
