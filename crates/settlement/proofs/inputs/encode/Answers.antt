use Rattle.std.proofs.Common.{refl, arith}
use Rattle.settlement.specs.State.{held_by}
use Rattle.settlement.proofs.Answering.{encode_accepted, refused, input_there}
use Rattle.settlement.specs.declared.call.Call.TheVariants.{Encode}
use Rattle.settlement.proofs.inputs.encode.Goals as goal

pub bounds-lent-input : goal.bounds-lent-input
bounds-lent-input g c =
    let there = input_there _ _ _ _ _ c.in-Ok.ensures.accepted in
    omega arith

pub returns-in-Ok-clause-made : goal.returns-in-Ok-clause-made
returns-in-Ok-clause-made g c = λ F E evaluator shown m n.
    let marks = c.in-Ok.ensures.marked in
    let secrets = c.in-Ok.ensures.secrets in
    encode_accepted g.L.Label.kind F E c.args.circuit.now
    (held_by c.args.garbler.now evaluator c.args.lent.now shown m n) _
    c.args.input c.args.bit _ c.in-Ok.ensures.accepted c.in-Ok.ensures.label (rw (marks, secrets) refl)

pub returns-in-Err-clause-made : goal.returns-in-Err-clause-made
returns-in-Err-clause-made g c = λ F E evaluator shown m n.
    let same = c.in-Err.ensures.same in
    refused g.L.Label.kind F E c.args.circuit.now
    (held_by c.args.garbler.now evaluator c.args.lent.now shown m n) _
    (Encode c.args.input c.args.bit) c.in-Err.why c.in-Err.ensures.refused (rw same refl)
