use Rattle.std.proofs.Common.{arith}
use Rattle.circuit.specs.Lent.{parts_in}
use Rattle.parties.proofs.Decided.{output_there}
use Rattle.parties.proofs.progress.Progress.may_output.Goals as goal

pub returns-clause-room : goal.returns-clause-room
returns-clause-room c =
    let e = c.in_ok-c.ensures in
    let there = output_there c.args.self.now.side c.args.circuit.now (parts_in c.in_ok-c.c.arrays) c.in_ok-c.c.wires c.args.wires c.args.output e.passed e.its (omega arith) (omega arith) in
    let is = c.word_at.ensures in
    omega arith
