-- The counts of both hashes after one call. Assumes nothing.
use Rattle.std.proofs.Common.{◌≡◌, ℕ, ◌+◌, ◌<◌, Bool, true, false, cond, List, ◌^◌, None, sym, ap, ap₂, ◌∙◌, arith}
use Rattle.labels.specs.Kind.{Kind}
use Rattle.circuit.specs.Parts.{Parts, parts_of}
use Rattle.circuit.specs.Check.{circuit_refusal}
use Rattle.memory.specs.Copy.{open_copy}
use Rattle.steps.specs.Gate.{garble_calls, evaluate_calls}
use Rattle.hashes.specs.Count.{counted}
use Rattle.laws.proofs.Opening.{parts_open, calls_open}
use Rattle.settlement.specs.State.{State}
use Rattle.settlement.specs.Lines.{is_accepted}
use Rattle.settlement.specs.Accepted.{Accepted}
use Rattle.settlement.specs.Made.{Step}
use Rattle.settlement.specs.Claims.{garbler_cost, evaluator_cost}
use Rattle.settlement.specs.declared.call.Call.{Call}
use Rattle.settlement.specs.declared.call.Call.TheVariants.{Garble, Encode, Deliver, Evaluate, Colours, Decode, Certify}
use Rattle.settlement.specs.declared.line.Answer.{Answer}
use Rattle.settlement.proofs.Outcomes.{stays, goes, outcome}

pub counted_more : (came a b : ℕ) → counted (counted came a) b ≡ counted came (a + b)
counted_more came a b = omega arith

pub fresh_count : (came : ℕ) → came < 2 ^ 64 → came ≡ counted came 0
fresh_count came l = omega arith

pub counted_none : (came a : ℕ) → counted came a ≡ counted came (a + 0)
counted_none came a = omega arith

-- the garbler's count and the evaluator's after one call, for a sum so far
module _ {L : Type 0} (K : Kind L) (F E : L → ℕ → L) (bytes : List ℕ) (passes : circuit_refusal bytes ≡ None) (s : State L) (a : Answer L) (t : State L) (came sum : ℕ) where
  none_spent : (count : ℕ) → count ≡ counted came sum → (q : Bool) → count ≡ counted came (sum + cond q 0 0)
  none_spent count e true = e ∙ counted_none came sum
  none_spent count e false = e ∙ counted_none came sum

  garbler_spends : (call : Call) → s.garbler_count ≡ counted came sum → Accepted K bytes s a t F E call → t.garbler_count ≡ counted came (sum + cond (is_accepted a) (garbler_cost (parts_of bytes) call s.garbler.next) 0)
  garbler_spends (Garble n m) e acc =
      ap (λ (z : State L). z.garbler_count) acc.leaves ∙ ap (λ (k : ℕ). counted k (garble_calls (parts_of bytes) s.garbler.next)) e
      ∙ counted_more came sum (garble_calls (parts_of bytes) s.garbler.next)
      ∙ ap (λ (q : Bool). counted came (sum + cond q (garble_calls (parts_of bytes) s.garbler.next) 0)) (sym (ap is_accepted acc.answer))
  garbler_spends (Encode i b) e acc = none_spent t.garbler_count (ap (λ (z : State L). z.garbler_count) acc.leaves ∙ e) (is_accepted a)
  garbler_spends (Deliver i) e acc = none_spent t.garbler_count (ap (λ (z : State L). z.garbler_count) acc.leaves ∙ e) (is_accepted a)
  garbler_spends (Evaluate n) e acc = none_spent t.garbler_count (ap (λ (z : State L). z.garbler_count) acc.leaves ∙ e) (is_accepted a)
  garbler_spends (Colours n) e acc = none_spent t.garbler_count (ap (λ (z : State L). z.garbler_count) acc.leaves ∙ e) (is_accepted a)
  garbler_spends (Decode n) e acc = none_spent t.garbler_count (ap (λ (z : State L). z.garbler_count) acc.leaves ∙ e) (is_accepted a)
  garbler_spends (Certify o) e acc = none_spent t.garbler_count (ap (λ (z : State L). z.garbler_count) acc.leaves ∙ e) (is_accepted a)

  evaluator_spends : (call : Call) → s.evaluator_count ≡ counted came sum → Accepted K bytes s a t F E call
      → t.evaluator_count ≡ counted came (sum + cond (is_accepted a) (evaluator_cost (parts_of bytes) call s.evaluator.next) 0)
  evaluator_spends (Garble n m) e acc = none_spent t.evaluator_count (ap (λ (z : State L). z.evaluator_count) acc.leaves ∙ e) (is_accepted a)
  evaluator_spends (Encode i b) e acc = none_spent t.evaluator_count (ap (λ (z : State L). z.evaluator_count) acc.leaves ∙ e) (is_accepted a)
  evaluator_spends (Deliver i) e acc = none_spent t.evaluator_count (ap (λ (z : State L). z.evaluator_count) acc.leaves ∙ e) (is_accepted a)
  evaluator_spends (Evaluate n) e acc =
      let cost : evaluate_calls (parts_of (open_copy bytes)) s.evaluator.next ≡ evaluate_calls (parts_of bytes) s.evaluator.next =
      ap (λ (q : Parts). evaluate_calls q s.evaluator.next) (parts_open bytes passes) ∙ calls_open (parts_of bytes) s.evaluator.next
      in
      ap (λ (z : State L). z.evaluator_count) acc.leaves ∙ ap₂ counted e cost
      ∙ counted_more came sum (evaluate_calls (parts_of bytes) s.evaluator.next)
      ∙ ap (λ (q : Bool). counted came (sum + cond q (evaluate_calls (parts_of bytes) s.evaluator.next) 0)) (sym (ap is_accepted acc.answer))
  evaluator_spends (Colours n) e acc = none_spent t.evaluator_count (ap (λ (z : State L). z.evaluator_count) acc.leaves ∙ e) (is_accepted a)
  evaluator_spends (Decode n) e acc = none_spent t.evaluator_count (ap (λ (z : State L). z.evaluator_count) acc.leaves ∙ e) (is_accepted a)
  evaluator_spends (Certify o) e acc = none_spent t.evaluator_count (ap (λ (z : State L). z.evaluator_count) acc.leaves ∙ e) (is_accepted a)

  pub garbler_counts : (call : Call) → Step K F E bytes s call a t → s.garbler_count ≡ counted came sum
      → t.garbler_count ≡ counted came (sum + cond (is_accepted a) (garbler_cost (parts_of bytes) call s.garbler.next) 0)
  garbler_counts call step e =
      elim (outcome K F E bytes s call a t step) [
        | stays denied same ↦ ap (λ (z : State L). z.garbler_count) same ∙ e ∙ counted_none came sum
            ∙ ap (λ (q : Bool). counted came (sum + cond q (garbler_cost (parts_of bytes) call s.garbler.next) 0)) (sym denied)
        | goes standing free acc ↦ garbler_spends call e acc
      ]

  pub evaluator_counts : (call : Call) → Step K F E bytes s call a t → s.evaluator_count ≡ counted came sum
      → t.evaluator_count ≡ counted came (sum + cond (is_accepted a) (evaluator_cost (parts_of bytes) call s.evaluator.next) 0)
  evaluator_counts call step e =
      elim (outcome K F E bytes s call a t step) [
        | stays denied same ↦ ap (λ (z : State L). z.evaluator_count) same ∙ e ∙ counted_none came sum
            ∙ ap (λ (q : Bool). counted came (sum + cond q (evaluator_cost (parts_of bytes) call s.evaluator.next) 0)) (sym denied)
        | goes standing free acc ↦ evaluator_spends call e acc
      ]
