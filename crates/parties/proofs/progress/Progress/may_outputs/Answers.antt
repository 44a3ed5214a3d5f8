use Rattle.std.proofs.Common.{arith, ◌∙◌}
use Rattle.circuit.specs.Lent.{parts_in}
use Rattle.parties.proofs.Decided.{outputs_ready}
use Rattle.parties.proofs.progress.Progress.may_outputs.Goals as goal

pub returns-clause-ready : goal.returns-clause-ready
returns-clause-ready c =
    let e = c.in_ok-c.ensures in
    outputs_ready c.args.self.now.side c.args.circuit.now (parts_in c.in_ok-c.c.arrays) c.in_ok-c.c.wires c.args.wires c.args.colours e.passed e.its (omega arith) (c.if-colours-from.false ∙ c.from-else-wires-from.ensures)
