use Rattle.std.proofs.Common.{◌≡◌, ◌<◌, List, length, drop, refl, ap, ◌∙◌, arith}
use Rattle.std.proofs.lemmas.List.{drop-set-lt}
use Rattle.settlement.specs.State.{no_past, held_by}
use Rattle.settlement.specs.Lines.{call_at}
use Rattle.settlement.specs.declared.line.Line.{Line}
use Rattle.settlement.proofs.Running.{followed_none, followed_more, step_with, sent_long, loans_then}
use Rattle.settlement.proofs.run.run.Goals as goal

pub loop-k-init : goal.loop-k-init
loop-k-init g c = record {
  followed = followed_none _ _ _ _ _ _ _;
  past = refl;
  sent = c.requires.sent;
  garbler_kept = refl;
  evaluator_kept = refl;
  loans = record { zeros = refl; labels = refl; sent = refl; scratch = refl; material = refl; colours = refl; outputs = refl };
}

pub loop-k-preserved : goal.loop-k-preserved
loop-k-preserved g c =
    let i = c.loop-k.invariant in
    let e = c.step-answer.ensures in
    let K = g.L.Label.kind in
    let F = g.G.LabelHash.means c.args.garbler_hash.now in
    let E = g.H.LabelHash.means c.args.evaluator_hash.now in
    let first = held_by c.args.garbler.now c.args.evaluator.now c.args.lent.now no_past (g.G.LabelHash.calls c.args.garbler_hash.now) (g.H.LabelHash.calls c.args.evaluator_hash.now) in
    let here = held_by c.loop-k.garbler c.loop-k.evaluator c.loop-k.lent c.loop-k.past (g.G.LabelHash.calls c.loop-k.garbler_hash) (g.H.LabelHash.calls c.loop-k.evaluator_hash) in
    let new = held_by c.step-answer.new.garbler c.step-answer.new.evaluator c.step-answer.new.lent c.step-answer.new.past (g.G.LabelHash.calls c.step-answer.new.garbler_hash) (g.H.LabelHash.calls c.step-answer.new.evaluator_hash) in
    let call = call_at c.args.calls.now c.loop-k.k in
    let F' = g.G.LabelHash.means c.loop-k.garbler_hash in
    let E' = g.H.LabelHash.means c.loop-k.evaluator_hash in
    let made = step_with K F E F' E' c.args.circuit.now here new call c.step-answer.result i.garbler_kept i.evaluator_kept e.step in
    let room : c.loop-k.k < length c.loop-k.lines = omega arith in
    let line : Line _ = record { answer = c.step-answer.result; garbler_count = c.count.result; evaluator_count = c.count-in-loop-k.result } in
    let more = followed_more K F E c.args.circuit.now c.args.calls.now first c.loop-k.lines c.loop-k.k here new line room i.followed made c.count.ensures c.count-in-loop-k.ensures in
    record {
      followed = rw c.write_line.ensures more;
      past = ap (λ (xs : List _). drop (length c.args.calls.now) xs) c.write_line.ensures ∙ drop-set-lt (length c.args.calls.now) c.loop-k.lines c.loop-k.k line (omega arith) ∙ i.past;
      sent = let l = sent_long K F' E' c.args.circuit.now here new call c.step-answer.result e.step in omega arith;
      garbler_kept = e.garbler_kept ∙ i.garbler_kept;
      evaluator_kept = e.evaluator_kept ∙ i.evaluator_kept;
      loans = loans_then _ _ _ i.loans e.loans;
    }

pub returns-clause-followed : goal.returns-clause-followed
returns-clause-followed g c =
    let i = c.loop-k.invariant in
    let e : c.loop-k.k ≡ length c.args.calls.now = omega arith in
    rw e at i.followed
