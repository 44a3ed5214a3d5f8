use Rattle.std.proofs.Common.{◌+◌, refl, arith}
use Rattle.tables.proofs.Mixing.{leveled_none, leveled_more}
use Rattle.tables.proofs.random.add_level.Goals as goal

pub loop-i-init : goal.loop-i-init
loop-i-init c = leveled_none c.args.w c.args.nums.now c.args.fs.now

pub loop-i-preserved : goal.loop-i-preserved
loop-i-preserved c = leveled_more c.args.w c.loop-i.i (c.loop-i.i + 1) c.args.nums.now c.args.fs.now c.loop-i.fs c.loop-i.invariant (omega arith) (omega arith) refl

pub returns : goal.returns
returns c = record {
  lower = λ i l. c.loop-i.invariant.lower i (omega arith);
  upper = λ i l. c.loop-i.invariant.upper i (omega arith);
}
