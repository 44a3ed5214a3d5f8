use Rattle.std.proofs.Common.{length, mul-le-mul_right, arith}
use Rattle.steps.specs.Memory.{memory_of}
use Rattle.steps.proofs.operands.eight_fit.Goals as goal

pub returns : goal.returns
returns g c =
    let h = c.well_formed.0.1 in
    let k = mul-le-mul_right {m = 8} {n = length c.args.lent.now} (memory_of g.row.L) c.requires in
    omega arith
