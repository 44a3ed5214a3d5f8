use Rattle.std.proofs.lemmas.Result.{err_from_is_err_and}
use Rattle.parties.proofs.Early.{begin_not_16}
use Rattle.garbler.proofs.opening.may_open.Goals as goal

pub returns-in_err-c-clause-other : goal.returns-in_err-c-clause-other
returns-in_err-c-clause-other g c =
    let p = err_from_is_err_and c.from_residual.result c.from_residual.ensures.1 in
    let n = begin_not_16 c.args.circuit.now c.args.side.now.ended c.args.wires c.in_err-c.field-0.0 c.in_err-c.ensures.refused in
    rw (p.1, p.2) n
