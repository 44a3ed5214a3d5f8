use Rattle.std.proofs.Common.{◌/◌, length, arith}
use Rattle.labels.specs.Words.{word_at}
use Rattle.circuit.proofs.Bounds.{each_below}
use Rattle.tables.proofs.Filling.{there_first}
use Rattle.tables.proofs.Packing.{listed_all}
use Rattle.steps.specs.Gate.{label_on}
use Rattle.steps.proofs.operands.read_operands.Goals as goal

pub operand-requires : goal.operand-requires
operand-requires g c =
    let b = each_below (word_at c.args.operands.now) _ _ c.requires.order c.loop-j.j (omega arith) in
    record { there = omega arith; order = b; room = c.requires.room }

pub loop-j-preserved : goal.loop-j-preserved
loop-j-preserved g c =
    there_first g.L.Label.kind.zero c.loop-j.j (label_on g.L.Label.kind c.args.wires.now.values.now c.args.operands.now) c.loop-j.out _ c.loop-j.invariant (omega arith) c.operand.ensures

pub returns : goal.returns
returns g c =
    listed_all (label_on g.L.Label.kind c.args.wires.now.values.now c.args.operands.now) c.loop-j.out g.L.Label.kind.zero (length c.args.operands.now / 2) (omega arith)
    (λ k l. c.loop-j.invariant k (omega arith))
