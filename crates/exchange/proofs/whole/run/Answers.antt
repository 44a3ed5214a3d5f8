use Rattle.std.proofs.Common.{refl, sym, ◌∙◌}
use Rattle.std.proofs.lemmas.Result.{on_ok_weaker, IfErr-weaker}
use Rattle.exchange.proofs.Settled.{outcome, only_opening}
use Rattle.exchange.proofs.Counted.{ended_from_none, denied_from_none}
use Rattle.exchange.proofs.whole.run.Goals as goal

pub returns-clause-outcome : goal.returns-clause-outcome
returns-clause-outcome g c =
    on_ok_weaker c.settle.result (λ e bits plan.
    outcome g.L.Label.kind g.F.LabelFunction.means c.args.circuit.now c.args.seed.now bits c.args.copy.now _ _ c.args.calls.now c.args.lines.now c.settle.new.lines c.args.lent.now c.settle.new.lent _ _ plan e
    c.starting_at-garbler_hash.ensures c.starting_at-evaluator_hash.ensures
    (record { zeros = refl; labels = refl; scratch = refl; material = refl; colours = refl; outputs = refl })
    (λ past. record { zeros = refl; labels = refl; scratch = refl; material = refl; colours = refl; outputs = refl }))
    c.settle.ensures.settled

pub returns-clause-opened : goal.returns-clause-opened
returns-clause-opened g c =
    on_ok_weaker c.settle.result (λ e bits plan.
    sym (only_opening g.L.Label.kind g.F.LabelFunction.means c.args.circuit.now c.args.seed.now bits c.args.copy.now _ _ c.args.lent.now c.args.calls.now c.args.lines.now plan) ∙ e)
    c.settle.ensures.accepted

pub returns-clause-opening : goal.returns-clause-opening
returns-clause-opening g c =
    IfErr-weaker c.settle.result _ _ (λ why e bits plan.
    sym (only_opening g.L.Label.kind g.F.LabelFunction.means c.args.circuit.now c.args.seed.now bits c.args.copy.now _ _ c.args.lent.now c.args.calls.now c.args.lines.now plan) ∙ e)
    c.settle.ensures.refused

pub returns-clause-settled : goal.returns-clause-settled
returns-clause-settled g c =
    on_ok_weaker c.settle.result (λ e. (
      c.settle.new.garbler_hash.count,
      c.settle.new.evaluator_hash.count,
      ended_from_none g.L.Label.kind g.F.LabelFunction.means c.args.circuit.now c.args.seed.now c.args.calls.now c.settle.new.lines c.args.garbler.now c.args.evaluator.now c.args.lent.now _ _ _ c.starting_at-garbler_hash.ensures c.starting_at-evaluator_hash.ensures e,
    ))
    c.settle.ensures.settled

pub returns-clause-denied : goal.returns-clause-denied
returns-clause-denied g c =
    IfErr-weaker c.settle.result _ _ (λ why e. (
      c.settle.new.garbler_hash.count,
      c.settle.new.evaluator_hash.count,
      denied_from_none g.L.Label.kind g.F.LabelFunction.means c.args.circuit.now c.args.seed.now _ why c.args.garbler.now c.args.evaluator.now c.args.lent.now _ _ _ c.starting_at-garbler_hash.ensures c.starting_at-evaluator_hash.ensures e,
    ))
    c.settle.ensures.denied
