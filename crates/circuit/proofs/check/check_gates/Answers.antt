use Rattle.std.proofs.Common.{arith}
use Rattle.std.proofs.lemmas.Result.{err_from_is_err_and}
use Rattle.circuit.specs.Lent.{parts_in}
use Rattle.circuit.proofs.Checks.{gates_stop}
use Rattle.circuit.proofs.check.check_gates.Goals as goal

pub returns-in_err-made : goal.returns-in_err-made
returns-in_err-made c =
    let e = err_from_is_err_and c.from_residual.result c.from_residual.ensures.1 in
    rw (e.1, e.2) (gates_stop (parts_in c.args.a) c.loop-g.g c.args.a.sizes.gates c.in_err-made.field-0.0 (omega arith) c.loop-g.invariant.0 c.in_err-made.ensures)
