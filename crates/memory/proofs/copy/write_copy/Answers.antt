use Rattle.memory.proofs.Copying.{cleared_part}
use Rattle.memory.proofs.copy.write_copy.Goals as goal

pub returns : goal.returns
returns c =
    cleared_part c.args.from c.args.to c.args.circuit.now c.copy_from_slice.new.self c.fill.new.self c.requires.order c.requires.within c.copy_from_slice.ensures.after
    (c.fill.ensures.after (λ y e. e))
