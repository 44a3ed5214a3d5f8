use Rattle.std.proofs.Common.{ℕ, length, ap, ◌∙◌, rules}
use Rattle.labels.specs.Words.{word_at}
use Rattle.circuit.specs.Words.{all_below}
use Rattle.circuit.specs.Lent.{parts_in}
use Rattle.circuit.proofs.Circuits.{outputs_pass}
use Rattle.plain.proofs.Runs.{evaluated}
use Rattle.plain.proofs.run.plain.Goals as goal

pub returns : goal.returns
returns c =
    let e = c.in_ok-c.ensures in
    evaluated c.args.circuit.now c.args.bits.now _ c.in_ok-c.c.wires _ _ _ (length c.args.outputs.now) (search rules) e.accepted e.passed c.run.ensures.filled c.run.ensures.outs

pub run-requires-clause-order : goal.run-requires-clause-order
run-requires-clause-order c =
    let circuit = c.in_ok-c.c in
    let made = outputs_pass c.args.circuit.now (parts_in circuit.arrays) circuit.wires c.in_ok-c.ensures.passed in
    ap (λ (w : ℕ). all_below (word_at circuit.arrays.outputs.now) circuit.arrays.sizes.outputs w) circuit.counted ∙ made
