use Rattle.std.proofs.Common.{◌≡◌, ℕ, List, length, sym, ap, ◌∙◌, subst, arith, Some, None, Option}
use Rattle.std.proofs.lemmas.Result.{IfOk-weaker}
use Rattle.labels.specs.Longs.{long}
use Rattle.hashes.specs.AesHash.{aes_hash}
use Rattle.circuit.specs.Parts.{parts_of}
use Rattle.circuit.specs.Gates.{wires_in}
use Rattle.circuit.specs.declared.refusal.Refusal.{Refusal}
use Rattle.parties.specs.Side.{unused}
use Rattle.parties.specs.Refusing.{open_refusal}
use Rattle.exchange.specs.Furnished.{Furnished}
use Rattle.exchange.specs.Outcome.{Outcome}
use Rattle.listing.specs.Dividend.{count_bits, settle_lines}
use Rattle.listing.specs.Lines.{text_unless}
use Rattle.listing.proofs.Plans.{planned, then_opening}
use Rattle.listing.proofs.Dividends.{some_lines, outputs_sixteen, text_same}
use Rattle.listing.proofs.dividend.settled.Goals as goal

pub lines_of-text-requires-clause-some : goal.lines_of-text-requires-clause-some
lines_of-text-requires-clause-some c =
    let bytes : List ℕ = c.args.circuit.now in
    let bits : List ℕ = count_bits c.args.first c.args.second in
    let f = subst (λ (b : List ℕ). Furnished long bytes c.args.seed.now b c.in-Ok.room) c.input_bits-bits.ensures (rw c.in-Ok.is at c.in_ok-room.ensures) in
    let lent = c.lend-lent.ensures in
    let plan = planned long bytes c.args.seed.now bits c.as_mut_slice-8.result.now c.in-Ok.room _ _ c.lend-lent.result c.as_slice-calls.result.now c.as_mut_slice-lines.result.now f
    (record {
      zeros = lent.zeros ∙ c.as_mut_slice.ensures.value;
      labels = lent.labels ∙ c.as_mut_slice-2.ensures.value;
      sent = lent.sent ∙ c.as_mut_slice-3.ensures.value;
      scratch = lent.scratch ∙ c.as_mut_slice-4.ensures.value;
      material = lent.material ∙ c.as_mut_slice-5.ensures.value;
      colours = lent.colours ∙ c.as_mut_slice-6.ensures.value;
      outputs = lent.outputs ∙ c.as_mut_slice-7.ensures.value;
    })
    c.new-garbler.ensures.side c.new-evaluator.ensures c.as_mut_slice-8.ensures.value c.as_slice-calls.ensures.value c.as_mut_slice-lines.ensures.value in
    let seed : c.as_mut_slice-9.result.now ≡ c.args.seed.now = c.as_mut_slice-9.ensures.value ∙ f.seed_is in
    let done = subst (λ (s : List ℕ). Outcome long aes_hash (long.from s) (parts_of bytes) bits c.run.new.lent c.run.new.lines) seed (c.in-Ok-run.ensures.outcome bits plan) in
    let both : length c.run.new.lines ≡ length c.as_slice-calls.result.now = omega (arith, plan.enough.lines_long, c.run.auto.lines) in
    some_lines bytes c.args.seed.now c.args.first c.args.second c.run.new.lent c.as_slice-calls.result.now c.run.new.lines c.requires plan.calls_are done both

pub lines_of-text-requires-clause-outputs : goal.lines_of-text-requires-clause-outputs
lines_of-text-requires-clause-outputs c =
    let bytes : List ℕ = c.args.circuit.now in
    let bits : List ℕ = count_bits c.args.first c.args.second in
    let f = subst (λ (b : List ℕ). Furnished long bytes c.args.seed.now b c.in-Ok.room) c.input_bits-bits.ensures (rw c.in-Ok.is at c.in_ok-room.ensures) in
    let lent = c.lend-lent.ensures in
    let plan = planned long bytes c.args.seed.now bits c.as_mut_slice-8.result.now c.in-Ok.room _ _ c.lend-lent.result c.as_slice-calls.result.now c.as_mut_slice-lines.result.now f
    (record {
      zeros = lent.zeros ∙ c.as_mut_slice.ensures.value;
      labels = lent.labels ∙ c.as_mut_slice-2.ensures.value;
      sent = lent.sent ∙ c.as_mut_slice-3.ensures.value;
      scratch = lent.scratch ∙ c.as_mut_slice-4.ensures.value;
      material = lent.material ∙ c.as_mut_slice-5.ensures.value;
      colours = lent.colours ∙ c.as_mut_slice-6.ensures.value;
      outputs = lent.outputs ∙ c.as_mut_slice-7.ensures.value;
    })
    c.new-garbler.ensures.side c.new-evaluator.ensures c.as_mut_slice-8.ensures.value c.as_slice-calls.ensures.value c.as_mut_slice-lines.ensures.value in
    let seed : c.as_mut_slice-9.result.now ≡ c.args.seed.now = c.as_mut_slice-9.ensures.value ∙ f.seed_is in
    let done = subst (λ (s : List ℕ). Outcome long aes_hash (long.from s) (parts_of bytes) bits c.run.new.lent c.run.new.lines) seed (c.in-Ok-run.ensures.outcome bits plan) in
    let both : length c.run.new.lines ≡ length c.as_slice-calls.result.now = omega (arith, plan.enough.lines_long, c.run.auto.lines) in
    outputs_sixteen bytes c.args.seed.now c.args.first c.args.second c.run.new.lent c.as_slice-calls.result.now c.run.new.lines c.requires plan.calls_are done both

pub returns-in-Ok-run : goal.returns-in-Ok-run
returns-in-Ok-run c =
    let bytes : List ℕ = c.args.circuit.now in
    let bits : List ℕ = count_bits c.args.first c.args.second in
    let f = subst (λ (b : List ℕ). Furnished long bytes c.args.seed.now b c.in-Ok.room) c.input_bits-bits.ensures (rw c.in-Ok.is at c.in_ok-room.ensures) in
    let lent = c.lend-lent.ensures in
    let plan = planned long bytes c.args.seed.now bits c.as_mut_slice-8.result.now c.in-Ok.room _ _ c.lend-lent.result c.as_slice-calls.result.now c.as_mut_slice-lines.result.now f
    (record {
      zeros = lent.zeros ∙ c.as_mut_slice.ensures.value;
      labels = lent.labels ∙ c.as_mut_slice-2.ensures.value;
      sent = lent.sent ∙ c.as_mut_slice-3.ensures.value;
      scratch = lent.scratch ∙ c.as_mut_slice-4.ensures.value;
      material = lent.material ∙ c.as_mut_slice-5.ensures.value;
      colours = lent.colours ∙ c.as_mut_slice-6.ensures.value;
      outputs = lent.outputs ∙ c.as_mut_slice-7.ensures.value;
    })
    c.new-garbler.ensures.side c.new-evaluator.ensures c.as_mut_slice-8.ensures.value c.as_slice-calls.ensures.value c.as_mut_slice-lines.ensures.value in
    let seed : c.as_mut_slice-9.result.now ≡ c.args.seed.now = c.as_mut_slice-9.ensures.value ∙ f.seed_is in
    let done = subst (λ (s : List ℕ). Outcome long aes_hash (long.from s) (parts_of bytes) bits c.run.new.lent c.run.new.lines) seed (c.in-Ok-run.ensures.outcome bits plan) in
    let both : length c.run.new.lines ≡ length c.as_slice-calls.result.now = omega (arith, plan.enough.lines_long, c.run.auto.lines) in
    let opened = subst (λ (s : List ℕ). open_refusal unused bytes long aes_hash (wires_in (parts_of bytes)) s ≡ None) seed (c.in-Ok-run.ensures.opened bits plan) in
    let free = then_opening long aes_hash bytes c.args.seed.now bits None f.accepted opened in
    IfOk-weaker c.lines_of-text.result _ _
    (λ t e. e c.args.first c.args.second c.in_ok-head.ensures ∙ text_same bytes c.args.seed.now c.args.first c.args.second c.run.new.lent c.as_slice-calls.result.now c.run.new.lines c.requires plan.calls_are done both ∙ ap (λ (r : Option Refusal). text_unless r (settle_lines bytes c.args.seed.now c.args.first c.args.second)) (sym free))
    c.lines_of-text.ensures

pub returns-in-Err-run : goal.returns-in-Err-run
returns-in-Err-run c =
    let bytes : List ℕ = c.args.circuit.now in
    let bits : List ℕ = count_bits c.args.first c.args.second in
    let f = subst (λ (b : List ℕ). Furnished long bytes c.args.seed.now b c.in-Ok.room) c.input_bits-bits.ensures (rw c.in-Ok.is at c.in_ok-room.ensures) in
    let lent = c.lend-lent.ensures in
    let plan = planned long bytes c.args.seed.now bits c.as_mut_slice-8.result.now c.in-Ok.room _ _ c.lend-lent.result c.as_slice-calls.result.now c.as_mut_slice-lines.result.now f
    (record {
      zeros = lent.zeros ∙ c.as_mut_slice.ensures.value;
      labels = lent.labels ∙ c.as_mut_slice-2.ensures.value;
      sent = lent.sent ∙ c.as_mut_slice-3.ensures.value;
      scratch = lent.scratch ∙ c.as_mut_slice-4.ensures.value;
      material = lent.material ∙ c.as_mut_slice-5.ensures.value;
      colours = lent.colours ∙ c.as_mut_slice-6.ensures.value;
      outputs = lent.outputs ∙ c.as_mut_slice-7.ensures.value;
    })
    c.new-garbler.ensures.side c.new-evaluator.ensures c.as_mut_slice-8.ensures.value c.as_slice-calls.ensures.value c.as_mut_slice-lines.ensures.value in
    let seed : c.as_mut_slice-9.result.now ≡ c.args.seed.now = c.as_mut_slice-9.ensures.value ∙ f.seed_is in
    let opened = subst (λ (s : List ℕ). open_refusal unused bytes long aes_hash (wires_in (parts_of bytes)) s ≡ Some c.in-Err-run.why) seed (c.in-Err-run.ensures.opening bits plan) in
    let why = then_opening long aes_hash bytes c.args.seed.now bits (Some c.in-Err-run.why) f.accepted opened in
    IfOk-weaker c.refused-in-Err-run.result _ _ (λ t e. e ∙ ap (λ (r : Option Refusal). text_unless r (settle_lines bytes c.args.seed.now c.args.first c.args.second)) (sym why)) c.refused-in-Err-run.ensures
