use Rattle.std.proofs.Common.{List, length, Some, None, refl, ap, arith}
use Rattle.std.proofs.lemmas.Result.{err_from_is_err_and}
use Rattle.circuit.proofs.Checks.{or_else_none}
use Rattle.settlement.specs.State.{no_past}
use Rattle.settlement.specs.Refused.{supply_of}
use Rattle.settlement.proofs.Settling.{refused_first, refused_then, copy_passes, denied_later, ended}
use Rattle.settlement.proofs.settle.settle.Goals as goal

pub returns-in-Err-clause-refused : goal.returns-in-Err-clause-refused
returns-in-Err-clause-refused g c = refused_first _ _ _ _ _ _ _ _ _ c.in-Err.why c.in-Err.ensures.refused

pub returns-in_err-tokens-clause-refused : goal.returns-in_err-tokens-clause-refused
returns-in_err-tokens-clause-refused g c =
    let p = err_from_is_err_and c.from_residual.result c.from_residual.ensures.1 in
    rw (p.1, p.2) (refused_then _ _ _ _ _ _ _ _ _ (Some c.in_err-tokens.field-0.0) c.in_default.ensures.accepted c.in_err-tokens.ensures.refused)

pub run-requires-clause-sent : goal.run-requires-clause-sent
run-requires-clause-sent g c =
    let b = (c.in_ok-tokens.ensures.begun no_past 0).sent in
    let l = ap (λ (xs : List _). length xs) b in
    omega (arith, l, c.in_default.ensures.sent)

pub run-requires-clause-passes : goal.run-requires-clause-passes
run-requires-clause-passes g c = copy_passes g.L.Label.kind (g.G.LabelHash.means c.args.garbler_hash.now) c.args.circuit.now c.args.seed.now c.args.garbler.now.progress.side c.args.evaluator.now.progress.side (length c.args.lent.now.zeros.now) (length c.args.lent.now.labels.now)
    c.in_ok-tokens.ensures.accepted

pub returns-in_err-tokens-clause-denied : goal.returns-in_err-tokens-clause-denied
returns-in_err-tokens-clause-denied g c =
    let p = err_from_is_err_and c.from_residual.result c.from_residual.ensures.1 in
    rw (p.1, p.2) (denied_later _ _ _ _ _ c.in_err-tokens.field-0.0 _ _ c.in_default.ensures.accepted (c.in_err-tokens.ensures.denied no_past (g.H.LabelHash.calls c.args.evaluator_hash.now)))

pub returns-clause-accepted : goal.returns-clause-accepted
returns-clause-accepted g c = refused_then _ _ _ _ _ _ _ _ _ None c.in_default.ensures.accepted c.in_ok-tokens.ensures.accepted

pub returns-clause-settled : goal.returns-clause-settled
returns-clause-settled g c =
    let opens = (or_else_none _ _ c.in_ok-tokens.ensures.accepted).0 in
    let count = g.H.LabelHash.calls c.args.evaluator_hash.now in
    ended g.L.Label.kind _ _ c.args.circuit.now c.args.seed.now c.args.calls.now _ _ _ _ c.run.result
    (supply_of (length c.args.calls.now) (length c.args.lines.now) (length c.args.lent.now.sent.now) (length c.args.copy.now)) _
    c.in_ok-tokens.ensures.kept c.in_default.ensures.accepted opens c.in_default.ensures.sent refl refl (g.met.H.LabelHash.fits c.args.evaluator_hash.now)
    (c.in_ok-tokens.ensures.begun no_past count) c.run.ensures.followed
