use Rattle.transcript.proofs.settling.settled.Goals as goal

pub wipe_both-requires-clause-garbler : goal.wipe_both-requires-clause-garbler
wipe_both-requires-clause-garbler g c = c.in_ok-tokens.ensures.settled.settled.garbler_wipes

pub wipe_both-requires-clause-evaluator : goal.wipe_both-requires-clause-evaluator
wipe_both-requires-clause-evaluator g c = c.in_ok-tokens.ensures.settled.settled.evaluator_wipes
