-- After its calls both sides of a settlement can be wiped. Assumes nothing.
use Rattle.std.proofs.Common.{◌≡◌, ℕ, zero, suc, ◌≤◌, Bool, true, false, not, cond, ltb, List, length, Some, None, Option, refl, ap, ◌∙◌, sym, subst, arith}
use Rattle.std.proofs.lemmas.Bool.{le-ltb}
use Rattle.std.proofs.lemmas.List.{length-set}
use Rattle.labels.specs.Kind.{Kind}
use Rattle.circuit.specs.Gates.{wires_in}
use Rattle.circuit.specs.Parts.{parts_of}
use Rattle.memory.specs.Copy.{open_copy}
use Rattle.parties.specs.declared.side.Side.{Side}
use Rattle.parties.specs.declared.state.EvaluatorCall.TheVariants.{Wipe}
use Rattle.parties.specs.declared.state.State.TheVariants.{Collecting, Evaluating, Finished}
use Rattle.parties.specs.Refusing.{garbler_wipe_refusal, evaluator_wipe_refusal}
use Rattle.parties.specs.States.{allowed}
use Rattle.parties.specs.Marks.{all_marked}
use Rattle.parties.specs.Turns.{gates_left}
use Rattle.circuit.specs.declared.refusal.Refusal.{Refusal}
use Rattle.settlement.specs.State.{State}
use Rattle.settlement.specs.Stands.{stands, refusal}
use Rattle.settlement.specs.Accepted.{Accepted}
use Rattle.settlement.specs.Lines.{call_at, line_at}
use Rattle.settlement.specs.Made.{Step}
use Rattle.settlement.specs.Runs.{Settlement, Ran}
use Rattle.settlement.specs.declared.call.Call.{Call}
use Rattle.settlement.specs.declared.call.Call.TheVariants.{Garble, Encode, Deliver, Evaluate, Colours, Decode, Certify}
use Rattle.settlement.specs.declared.line.Answer.{Answer}

-- no side has ended, and each has the wires w and v in memory that is long enough
pub record Held {L : Type 0} (w v : ℕ) (s : State L) : Type 0 where
  pub garbler : s.garbler.ended ≡ false
  pub garbler_wires : s.garbler.wires ≡ w
  pub zeros : w ≤ length s.zeros
  pub evaluator : s.evaluator.ended ≡ false
  pub evaluator_wires : s.evaluator.wires ≡ v
  pub labels : v ≤ length s.labels

module _ {L : Type 0} (K : Kind L) (F E : L → ℕ → L) (bytes : List ℕ) (w v : ℕ) (s : State L) (held : Held w v s) (a : Answer L) (t : State L) where
  -- what a call leaves, if it ends no side and leaves wires and lengths as they were
  by_leaves : (u : State L) → t ≡ u → u.garbler.ended ≡ s.garbler.ended → u.garbler.wires ≡ s.garbler.wires → u.evaluator.ended ≡ s.evaluator.ended → u.evaluator.wires ≡ s.evaluator.wires
      → length t.zeros ≡ length s.zeros → length t.labels ≡ length s.labels → Held w v t
  by_leaves u e g gw x xw z l = record {
    garbler = ap (λ (y : State L). y.garbler.ended) e ∙ g ∙ held.garbler;
    garbler_wires = ap (λ (y : State L). y.garbler.wires) e ∙ gw ∙ held.garbler_wires;
    zeros = let h = held.zeros in omega arith;
    evaluator = ap (λ (y : State L). y.evaluator.ended) e ∙ x ∙ held.evaluator;
    evaluator_wires = ap (λ (y : State L). y.evaluator.wires) e ∙ xw ∙ held.evaluator_wires;
    labels = let h = held.labels in omega arith;
  }

  zeros_as : (u : State L) → t ≡ u → length t.zeros ≡ length u.zeros
  zeros_as u e = ap (λ (z : State L). length z.zeros) e

  labels_as : (u : State L) → t ≡ u → length t.labels ≡ length u.labels
  labels_as u e = ap (λ (z : State L). length z.labels) e

  accepted : (call : Call) → Accepted K bytes s a t F E call → Held w v t
  accepted (Garble n m) acc = by_leaves _ acc.leaves refl refl refl refl acc.wires.long (labels_as _ acc.leaves)
  accepted (Encode i b) acc = by_leaves _ acc.leaves refl refl refl refl (zeros_as _ acc.leaves) (labels_as _ acc.leaves)
  accepted (Deliver i) acc = by_leaves _ acc.leaves refl refl refl refl (zeros_as _ acc.leaves) (labels_as _ acc.leaves ∙ length-set s.labels i _)
  accepted (Evaluate n) acc = by_leaves _ acc.leaves refl refl refl refl (zeros_as _ acc.leaves) acc.wires.long
  accepted (Colours n) acc = by_leaves _ acc.leaves refl refl refl refl (zeros_as _ acc.leaves) (labels_as _ acc.leaves)
  accepted (Decode n) acc = by_leaves _ acc.leaves refl refl refl refl (zeros_as _ acc.leaves) (labels_as _ acc.leaves)
  accepted (Certify k) acc = by_leaves _ acc.leaves refl refl refl refl (zeros_as _ acc.leaves) (labels_as _ acc.leaves)

  module _ (call : Call) (step : Step K F E bytes s call a t) where
    denied : t ≡ s → Held w v t
    denied e = subst (λ (z : State L). Held w v z) (sym e) held

    answered : stands s call ≡ true → (o : Option Refusal) → refusal s K bytes call ≡ o → Held w v t
    answered standing (Some why) e = denied ((step.made standing).refused why e).1
    answered standing None e = accepted call ((step.made standing).accepted e)

    stood : (b : Bool) → stands s call ≡ b → Held w v t
    stood true e = answered e (refusal s K bytes call) refl
    stood false e = denied (step.unmade e).1

    stepped_held : Held w v t
    stepped_held = stood (stands s call) refl

module _ {L : Type 0} (K : Kind L) (r : Settlement L) (n : ℕ) (ran : Ran K r n) where
  abbrev w : ℕ
  w = wires_in (parts_of r.circuit)

  abbrev v : ℕ
  v = wires_in (parts_of (open_copy r.circuit))

  at_first : Held w v (r.at 0)
  at_first = record {
    garbler = ap (λ (z : Side). z.ended) ran.begun.garbler;
    garbler_wires = ap (λ (z : Side). z.wires) ran.begun.garbler;
    zeros = ran.begun.zeros_room;
    evaluator = ap (λ (z : Side). z.ended) ran.begun.evaluator;
    evaluator_wires = ap (λ (z : Side). z.wires) ran.begun.evaluator;
    labels = ran.begun.labels_room;
  }

  pub held_at : (k : ℕ) → k ≤ n → Held w v (r.at k)
  held_at zero h = at_first
  held_at (suc k) h = stepped_held K r.garbler_hash r.evaluator_hash r.circuit w v (r.at k) (held_at k (omega arith)) (line_at r.lines k).answer (r.at (suc k)) (call_at r.calls k) (ran.follows.step k (omega arith))

module _ {L : Type 0} (w v : ℕ) (s : State L) (held : Held w v s) where
  zeros_enough : ltb (length s.zeros) s.garbler.wires ≡ false
  zeros_enough = le-ltb (length s.zeros) s.garbler.wires (let a = held.garbler_wires in let b = held.zeros in omega arith)

  labels_enough : ltb (length s.labels) s.evaluator.wires ≡ false
  labels_enough = le-ltb (length s.labels) s.evaluator.wires (let a = held.evaluator_wires in let b = held.labels in omega arith)

  pub garbler_may : garbler_wipe_refusal s.garbler (length s.zeros) ≡ None
  garbler_may = rw (held.garbler, zeros_enough)

  allowed_still : (a b : Bool) → allowed (cond a (cond b Evaluating Finished) Collecting) Wipe ≡ true
  allowed_still true true = refl
  allowed_still true false = refl
  allowed_still false true = refl
  allowed_still false false = refl

  pub evaluator_may : evaluator_wipe_refusal s.evaluator (length s.labels) ≡ None
  evaluator_may = rw (held.evaluator, allowed_still (all_marked s.evaluator.marks s.evaluator.sizes.inputs) (gates_left s.evaluator), labels_enough)
