-- A call more is followed. Assumes nothing.
use Rattle.std.proofs.Common.{◌≡◌, ℕ, suc, ◌+◌, ◌<◌, ◌≤◌, Bool, true, false, cond, nat_lt, List, length, slice_set, Some, None, Option, refl, ap, ◌∙◌, sym, arith}
use borrow.Author.Count.{below_more}
use Rattle.std.proofs.lemmas.List.{get_or-set_same, get_or-set_other, length-set}
use Rattle.std.proofs.lemmas.Bool.{lt-ltb, le-ltb}
use Rattle.labels.specs.Kind.{Kind}
use Rattle.circuit.specs.declared.refusal.Refusal.{Refusal}
use Rattle.settlement.specs.State.{State}
use Rattle.settlement.specs.Lines.{call_at, line_at}
use Rattle.settlement.specs.Stands.{stands, refusal}
use Rattle.settlement.specs.Accepted.{Accepted}
use Rattle.settlement.specs.Made.{Made, SameLoans, Step}
use Rattle.settlement.specs.Followed.{Followed}
use Rattle.settlement.specs.declared.call.Call.{Call}
use Rattle.settlement.specs.declared.call.Call.TheVariants.{Garble, Encode, Deliver, Evaluate, Colours, Decode, Certify}
use Rattle.settlement.specs.declared.lent.Lent.{Lent}
use Rattle.settlement.specs.declared.line.Answer.{Answer}
use Rattle.settlement.specs.declared.line.Answer.TheVariants.{NotMade}
use Rattle.settlement.specs.declared.line.Line.{Line}
use Rattle.settlement.proofs.Turning.{true_false}

module _ {L : Type 0} (K : Kind L) (F E : L → ℕ → L) (bytes : List ℕ) (s t : State L) (call : Call) where
  -- a call that stands is made, and one that does not leaves all as it is
  pub made_step : (a : Answer L) → stands s call ≡ true → Made K F E bytes call s a t → Step K F E bytes s call a t
  made_step a up m = record {
    unmade = λ e. true_false _ up e;
    made = λ _. m;
  }

  pub unmade_step : stands s call ≡ false → t ≡ s → Step K F E bytes s call NotMade t
  unmade_step down e = record {
    unmade = λ _. (refl, e);
    made = λ up. true_false _ up down;
  }

  -- the labels' memory keeps its length
  sent_accepted : (a : Answer L) (d : Call) → Accepted K bytes s a t F E d → length t.sent ≡ length s.sent
  sent_accepted a (Garble scratch material) m = ap (λ (z : State L). length z.sent) m.leaves
  sent_accepted a (Encode input bit) m = ap (λ (z : State L). length z.sent) m.leaves ∙ length-set _ _ _
  sent_accepted a (Deliver input) m = ap (λ (z : State L). length z.sent) m.leaves
  sent_accepted a (Evaluate scratch) m = ap (λ (z : State L). length z.sent) m.leaves
  sent_accepted a (Colours n) m = ap (λ (z : State L). length z.sent) m.leaves
  sent_accepted a (Decode n) m = ap (λ (z : State L). length z.sent) m.leaves
  sent_accepted a (Certify output) m = ap (λ (z : State L). length z.sent) m.leaves

  sent_by : (a : Answer L) (b : Bool) (o : Option Refusal) → stands s call ≡ b → refusal s K bytes call ≡ o → Step K F E bytes s call a t → length t.sent ≡ length s.sent
  sent_by a false o e f m = ap (λ (z : State L). length z.sent) (m.unmade e).1
  sent_by a true (Some why) e f m = ap (λ (z : State L). length z.sent) ((m.made e).refused why f).1
  sent_by a true None e f m = sent_accepted a call ((m.made e).accepted f)

  pub sent_long : (a : Answer L) → Step K F E bytes s call a t → length t.sent ≡ length s.sent
  sent_long a m = sent_by a _ _ refl refl m

-- by equal functions of the hashes
pub step_with : {L : Type 0} (K : Kind L) (F E F' E' : L → ℕ → L) (bytes : List ℕ) (s t : State L) (call : Call) (a : Answer L) → F' ≡ F → E' ≡ E → Step K F' E' bytes s call a t → Step K F E bytes s call a t
step_with K F E F' E' bytes s t call a ef ee m = rw (← ef, ← ee) m

-- the states so far, and one more
then_at : {L : Type 0} → (ℕ → State L) → ℕ → State L → ℕ → State L
then_at at k new j = cond (nat_lt k j) new (at j)

module _ {L : Type 0} (at : ℕ → State L) (k : ℕ) (new : State L) where
  before : (j : ℕ) → j ≤ k → then_at at k new j ≡ at j
  unfolding then_at
  before j h = ap (λ (b : Bool). cond b new (at j)) (le-ltb k j h)

  after : (j : ℕ) → k < j → then_at at k new j ≡ new
  unfolding then_at
  after j h = ap (λ (b : Bool). cond b new (at j)) (lt-ltb k j h)

module _ {L : Type 0} (K : Kind L) (F E : L → ℕ → L) (bytes : List ℕ) (calls : List Call) (first : State L) where
  step_same : (s s' t t' : State L) (call : Call) (a a' : Answer L) → s' ≡ s → t' ≡ t → a' ≡ a → Step K F E bytes s call a t → Step K F E bytes s' call a' t'
  step_same s s' t t' call a a' es et ea m = rw (es, et, ea) m

  pub followed_none : (lines : List (Line L)) → Followed K F E bytes calls lines 0 first first
  followed_none lines = record {
    at = λ _. first;
    starts = refl;
    ends = refl;
    follows = record {
      step = λ k h. absurd (omega arith);
      garbler_counts = λ k h. absurd (omega arith);
      evaluator_counts = λ k h. absurd (omega arith);
    };
  }

  module _ (lines : List (Line L)) (n : ℕ) (here new : State L) (line : Line L) (room : n < length lines) (f : Followed K F E bytes calls lines n first here) where
    line_here : line_at (slice_set lines n line) n ≡ line
    line_here = get_or-set_same lines n line _ room

    line_there : (k : ℕ) → k < n → line_at (slice_set lines n line) k ≡ line_at lines k
    line_there k h = get_or-set_other lines n k line _ (λ e. absurd (omega arith))

    pub followed_more : Step K F E bytes here (call_at calls n) line.answer new
        → line.garbler_count ≡ new.garbler_count
        → line.evaluator_count ≡ new.evaluator_count
        → Followed K F E bytes calls (slice_set lines n line) (n + 1) first new
    followed_more m g e = record {
      at = then_at f.at n new;
      starts = before f.at n new 0 (omega arith) ∙ f.starts;
      ends = after f.at n new (n + 1) (omega arith);
      follows = record {
        step = below_more (λ k. Step K F E bytes (then_at f.at n new k) (call_at calls k) (line_at (slice_set lines n line) k).answer (then_at f.at n new (suc k))) n
            (λ k h. step_same (f.at k) _ (f.at (suc k)) _ (call_at calls k) _ _ (before f.at n new k (omega arith)) (before f.at n new (suc k) (omega arith)) (ap (λ (z : Line L). z.answer) (line_there k h)) (f.follows.step k h))
            (step_same here _ new _ (call_at calls n) _ _ (before f.at n new n (omega arith) ∙ f.ends) (after f.at n new (suc n) (omega arith)) (ap (λ (z : Line L). z.answer) line_here) m);
        garbler_counts = below_more (λ k. (line_at (slice_set lines n line) k).garbler_count ≡ (then_at f.at n new (suc k)).garbler_count) n
            (λ k h. ap (λ (z : Line L). z.garbler_count) (line_there k h) ∙ f.follows.garbler_counts k h ∙ sym (ap (λ (z : State L). z.garbler_count) (before f.at n new (suc k) (omega arith))))
            (ap (λ (z : Line L). z.garbler_count) line_here ∙ g ∙ sym (ap (λ (z : State L). z.garbler_count) (after f.at n new (suc n) (omega arith))));
        evaluator_counts = below_more (λ k. (line_at (slice_set lines n line) k).evaluator_count ≡ (then_at f.at n new (suc k)).evaluator_count) n
            (λ k h. ap (λ (z : Line L). z.evaluator_count) (line_there k h) ∙ f.follows.evaluator_counts k h ∙ sym (ap (λ (z : State L). z.evaluator_count) (before f.at n new (suc k) (omega arith))))
            (ap (λ (z : Line L). z.evaluator_count) line_here ∙ e ∙ sym (ap (λ (z : State L). z.evaluator_count) (after f.at n new (suc n) (omega arith))));
      };
    }

-- the same loans, one after the other
pub loans_then : {L : Type 0} (a b d : Lent L) → SameLoans a b → SameLoans b d → SameLoans a d
loans_then a b d p q = record {
  zeros = q.zeros ∙ p.zeros;
  labels = q.labels ∙ p.labels;
  sent = q.sent ∙ p.sent;
  scratch = q.scratch ∙ p.scratch;
  material = q.material ∙ p.material;
  colours = q.colours ∙ p.colours;
  outputs = q.outputs ∙ p.outputs;
}
