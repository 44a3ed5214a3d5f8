use Rattle.tables.proofs.Mixing.{Leveled}
use Rattle.tables.proofs.random.add_level.Given as goal

abbrev pub invariant-loop-i : goal.invariant-loop-i
invariant-loop-i l = Leveled l.w l.i l.nums l.initial.fs l.fs
