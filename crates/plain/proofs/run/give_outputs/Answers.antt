use Rattle.std.proofs.Common.{arith}
use Rattle.labels.specs.Words.{word_at}
use Rattle.circuit.proofs.Bounds.{each_below}
use Rattle.plain.proofs.run.give_outputs.Goals as goal

pub read-requires : goal.read-requires
read-requires c =
    let b = each_below (word_at c.args.list.now) _ _ c.requires.order c.loop-o.o (omega arith) in
    (omega arith, c.requires.room)
