use Rattle.std.proofs.Common.{◌≡◌, ℕ, List, ◌∙◌, subst}
use Rattle.labels.specs.Papers.{paper}
use Rattle.hashes.specs.PaperHash.{paper_hash}
use Rattle.circuit.specs.Parts.{parts_of}
use Rattle.exchange.specs.Outcome.{Outcome}
use Rattle.listing.proofs.Plans.{planned}
use Rattle.listing.proofs.worksheet.work.Goals as goal

pub written-text-requires-clause-done : goal.written-text-requires-clause-done
written-text-requires-clause-done c =
    let bytes : List ℕ = c.args.p.circuit.now in
    let bits : List ℕ = c.args.p.bits.now in
    let f = rw c.in-Ok.is at c.in_ok-room.ensures in
    let lent = c.lend-lent.ensures in
    let plan = planned paper bytes c.args.p.seed.now bits c.as_mut_slice-8.result.now c.in-Ok.room _ _ c.lend-lent.result c.as_slice.result.now c.as_mut_slice-10.result.now f
    (record {
      zeros = lent.zeros ∙ c.as_mut_slice.ensures.value;
      labels = lent.labels ∙ c.as_mut_slice-2.ensures.value;
      sent = lent.sent ∙ c.as_mut_slice-3.ensures.value;
      scratch = lent.scratch ∙ c.as_mut_slice-4.ensures.value;
      material = lent.material ∙ c.as_mut_slice-5.ensures.value;
      colours = lent.colours ∙ c.as_mut_slice-6.ensures.value;
      outputs = lent.outputs ∙ c.as_mut_slice-7.ensures.value;
    })
    c.new-garbler.ensures.side c.new-evaluator.ensures c.as_mut_slice-8.ensures.value c.as_slice.ensures.value c.as_mut_slice-10.ensures.value in
    let seed : c.as_mut_slice-9.result.now ≡ c.args.p.seed.now = c.as_mut_slice-9.ensures.value ∙ f.seed_is in
    (c.run.new.lines, subst (λ (s : List ℕ). Outcome paper paper_hash (paper.from s) (parts_of bytes) bits c.run.new.lent c.run.new.lines) seed (c.in-Ok-run.ensures.outcome bits plan))
