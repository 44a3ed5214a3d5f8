use Rattle.tables.specs.Level.{Holds}
use Rattle.tables.proofs.Filling.{TailKept}
use Rattle.labels.specs.Lists.{places}
use Rattle.tables.proofs.one_level.halve.Given as goal

abbrev pub invariant-loop-i : goal.invariant-loop-i
invariant-loop-i g l =
    let K = g.L.Label.kind in
    Holds K l.i (λ i. K.xor (places K l.initial.front i) (places K l.back i)) l.front × TailKept K l.i l.initial.front l.front
