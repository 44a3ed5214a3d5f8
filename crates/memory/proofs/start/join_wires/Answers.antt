use Rattle.std.proofs.Common.{arith}
use Rattle.memory.proofs.Starting.{join_zeros}
use Rattle.memory.proofs.start.join_wires.Goals as goal

pub returns : goal.returns
returns g c = join_zeros c.args.total c.from.result g.L.Label.kind.zero c.args.wires.now c.clear.new.labels c.from.ensures (omega arith) c.clear.ensures
