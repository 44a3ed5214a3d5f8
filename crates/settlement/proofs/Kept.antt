-- One call keeps the tie. Assumes nothing.
use Rattle.std.proofs.Common.{◌≡◌, ℕ, Bool, true, List, None, sym, ap, ◌∙◌, subst}
use Rattle.labels.specs.Kind.{Kind}
use Rattle.hashes.specs.Draws.{offset}
use Rattle.circuit.specs.Check.{circuit_refusal}
use Rattle.settlement.specs.State.{State}
use Rattle.settlement.specs.Lines.{is_accepted}
use Rattle.settlement.specs.Stands.{stands, refusal}
use Rattle.settlement.specs.Accepted.{Accepted}
use Rattle.settlement.specs.Made.{Step}
use Rattle.settlement.specs.Claims.{noted}
use Rattle.settlement.specs.declared.call.Call.{Call}
use Rattle.settlement.specs.declared.call.Call.TheVariants.{Garble, Encode, Deliver, Evaluate, Colours, Decode, Certify}
use Rattle.settlement.specs.declared.line.Answer.{Answer}
use Rattle.settlement.proofs.Between.{Tied}
use Rattle.settlement.proofs.GatesKeep.{garble_keeps, evaluate_keeps}
use Rattle.settlement.proofs.InputsKeep.{encode_keeps, deliver_keeps}
use Rattle.settlement.proofs.OutputsKeep.{colours_keep, decode_keeps}
use Rattle.settlement.proofs.Outcomes.{stays, goes, outcome, not_noted}

module _ {L : Type 0} (K : Kind L) (F : L → ℕ → L) (bytes : List ℕ) (seed : L) (passes : circuit_refusal bytes ≡ None) (coloured : K.colour (offset F seed K) ≡ true)
    (s : State L) (x : ℕ → Bool) (tied : Tied K F bytes seed s x) (a : Answer L) (t : State L) where
  keeps : (call : Call) → stands s call ≡ true → refusal s K bytes call ≡ None → Accepted K bytes s a t F F call → (is_accepted a ≡ true) × Tied K F bytes seed t (noted call true x)
  keeps (Garble n m) standing free acc =
      (ap is_accepted acc.answer, subst (λ (z : State L). Tied K F bytes seed z x) (sym acc.leaves) (garble_keeps K F bytes seed passes s x tied n m free t.zeros _ _ acc.wires))
  keeps (Encode i b) standing free acc =
      (ap is_accepted acc.answer, subst (λ (z : State L). Tied K F bytes seed z (noted (Encode i b) true x)) (sym acc.leaves) (encode_keeps K F bytes seed passes s x tied i b free))
  keeps (Deliver i) standing free acc =
      (ap is_accepted acc.answer, subst (λ (z : State L). Tied K F bytes seed z x) (sym acc.leaves) (deliver_keeps K F bytes seed passes s x tied i standing free))
  keeps (Evaluate n) standing free acc =
      (ap is_accepted acc.answer, subst (λ (z : State L). Tied K F bytes seed z x) (sym acc.leaves) (evaluate_keeps K F bytes seed passes s x tied coloured n free t.labels _ _ acc.wires))
  keeps (Colours n) standing free acc =
      (ap is_accepted acc.answer, subst (λ (z : State L). Tied K F bytes seed z x) (sym acc.leaves) (colours_keep K F bytes seed passes s x tied n free))
  keeps (Decode n) standing free acc =
      (ap is_accepted acc.answer, subst (λ (z : State L). Tied K F bytes seed z x) (sym acc.leaves) (decode_keeps K F bytes seed passes s x tied n free _))
  keeps (Certify o) standing free acc =
      (ap is_accepted acc.answer, subst (λ (z : State L). Tied K F bytes seed z x) (sym acc.leaves) tied)

  pub call_keeps : (call : Call) → Step K F F bytes s call a t → Tied K F bytes seed t (noted call (is_accepted a) x)
  call_keeps call step =
      elim (outcome K F F bytes s call a t step) [
        | stays denied e ↦ (subst (λ (z : State L). Tied K F bytes seed z (noted call (is_accepted a) x)) (sym e)
            (subst (λ (y : ℕ → Bool). Tied K F bytes seed s y) (sym (ap (λ (q : Bool). noted call q x) denied ∙ not_noted call x)) tied))
        | goes standing free acc ↦ (let k = keeps call standing free acc in subst (λ (q : Bool). Tied K F bytes seed t (noted call q x)) (sym k.0) k.1)
      ]
