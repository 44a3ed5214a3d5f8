use Rattle.labels.specs.Kind.{times}
use Rattle.labels.specs.Numbers.{bit}
use Rattle.tables.specs.Level.{Holds}
use Rattle.tables.proofs.Filling.{TailKept}
use Rattle.labels.specs.Lists.{places}
use Rattle.tables.proofs.wires.start_wires.Given as goal

abbrev pub invariant-loop-j : goal.invariant-loop-j
invariant-loop-j g l =
    let K = g.L.Label.kind in
    Holds K l.j (λ j. K.xor (times K (bit j l.s) l.offset) (places K l.initial.new j)) l.new × TailKept K l.j l.initial.new l.new
