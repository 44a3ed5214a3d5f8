use Rattle.std.proofs.Common.{◌≡◌, ◌≤◌, length, drop}
use Rattle.settlement.specs.State.{no_past, held_by}
use Rattle.settlement.specs.Made.{SameLoans}
use Rattle.settlement.specs.Followed.{Followed}
use Rattle.settlement.proofs.run.run.Given as goal

abbrev pub invariant-loop-k : goal.invariant-loop-k
invariant-loop-k g l = record {
  followed : Followed g.L.Label.kind (g.G.LabelHash.means l.fn.garbler_hash) (g.H.LabelHash.means l.fn.evaluator_hash) l.circuit l.calls l.lines l.k
      (held_by l.fn.garbler l.fn.evaluator l.fn.lent no_past (g.G.LabelHash.calls l.fn.garbler_hash) (g.H.LabelHash.calls l.fn.evaluator_hash))
      (held_by l.garbler l.evaluator l.lent l.past (g.G.LabelHash.calls l.garbler_hash) (g.H.LabelHash.calls l.evaluator_hash));
  past : drop (length l.calls) l.lines ≡ drop (length l.calls) l.fn.lines;
  sent : 256 ≤ length l.lent.sent.now;
  garbler_kept : g.G.LabelHash.means l.garbler_hash ≡ g.G.LabelHash.means l.fn.garbler_hash;
  evaluator_kept : g.H.LabelHash.means l.evaluator_hash ≡ g.H.LabelHash.means l.fn.evaluator_hash;
  loans : SameLoans l.fn.lent l.lent;
}
