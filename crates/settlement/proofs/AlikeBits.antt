-- Colours that are shown are 0 or 1. Assumes nothing.
use Rattle.std.proofs.Common.{◌≡◌, ℕ, ◌<◌, Bool, true, false, List, ◌++◌, length, take, drop, slice_index, None, refl, sym, ap, ◌∙◌, subst, arith}
use Rattle.std.proofs.lemmas.List.{take_at}
use Rattle.labels.specs.Kind.{Kind}
use Rattle.labels.specs.Numbers.{digit}
use Rattle.labels.specs.Words.{word_at}
use Rattle.circuit.specs.Parts.{parts_of}
use Rattle.circuit.specs.Words.{all_below}
use Rattle.circuit.proofs.Bounds.{below_all}
use Rattle.labels.specs.Lists.{listed, places}
use Rattle.tables.proofs.Packing.{length_listed, get_or_listed}
use Rattle.settlement.specs.State.{State}
use Rattle.settlement.specs.Stands.{colours_by}
use Rattle.settlement.specs.Accepted.{Accepted}
use Rattle.settlement.specs.Made.{Step}
use Rattle.settlement.specs.declared.call.Call.{Call}
use Rattle.settlement.specs.declared.call.Call.TheVariants.{Garble, Encode, Deliver, Evaluate, Colours, Decode, Certify}
use Rattle.settlement.specs.declared.line.Answer.{Answer}
use Rattle.settlement.proofs.Outcomes.{stays, goes, outcome}

-- the colours shown are bits
abbrev pub AreBits : {L : Type 0} → State L → Type 0
AreBits s = all_below (λ i. slice_index (colours_by s.shown s.colours) i) (length (colours_by s.shown s.colours)) 2 ≡ true

pub none_bits : {L : Type 0} (s : State L) → s.shown ≡ None → AreBits s
none_bits s e = rw e refl

pub digit_low : (b : Bool) → digit b < 2
digit_low true = omega arith
digit_low false = omega arith

bits_shown : (f : ℕ → Bool) (m : ℕ) (rest : List ℕ)
    → all_below (λ i. slice_index (take m (listed m (λ k. digit (f k)) ++ rest)) i) (length (take m (listed m (λ k. digit (f k)) ++ rest))) 2 ≡ true
bits_shown f m rest =
    let bits = listed m (λ k. digit (f k)) in
    let long : length bits ≡ m = length_listed (λ k. digit (f k)) m in
    let front : take m (bits ++ rest) ≡ bits = take_at bits rest m long in
    ap (λ (xs : List ℕ). all_below (λ i. slice_index xs i) (length xs) 2) front
    ∙ below_all (λ i. slice_index bits i) (length bits) 2 (λ k l.
    let at : slice_index bits k ≡ digit (f k) = get_or_listed (λ k. digit (f k)) m k 0 (omega arith) in
    let low = digit_low (f k) in
    omega arith)

module _ {L : Type 0} (K : Kind L) (F E : L → ℕ → L) (bytes : List ℕ) (s : State L) (a : Answer L) (t : State L) (bits : AreBits s) where
  accepted_bits : (call : Call) → Accepted K bytes s a t F E call → AreBits t
  accepted_bits (Garble n m) acc = subst (λ (z : State L). AreBits z) (sym acc.leaves) bits
  accepted_bits (Encode i b) acc = subst (λ (z : State L). AreBits z) (sym acc.leaves) bits
  accepted_bits (Deliver i) acc = subst (λ (z : State L). AreBits z) (sym acc.leaves) bits
  accepted_bits (Evaluate n) acc = subst (λ (z : State L). AreBits z) (sym acc.leaves) bits
  accepted_bits (Colours n) acc =
      subst (λ (z : State L). AreBits z) (sym acc.leaves)
      (bits_shown (λ o. K.colour (places K s.zeros (word_at (parts_of bytes).outputs o))) (length (take n s.colours)) (drop n s.colours))
  accepted_bits (Decode n) acc = subst (λ (z : State L). AreBits z) (sym acc.leaves) bits
  accepted_bits (Certify o) acc = subst (λ (z : State L). AreBits z) (sym acc.leaves) bits

  pub step_bits : (call : Call) → Step K F E bytes s call a t → AreBits t
  step_bits call step =
      elim (outcome K F E bytes s call a t step) [
        | stays unmade e ↦ subst (λ (z : State L). AreBits z) (sym e) bits
        | goes standing free acc ↦ accepted_bits call acc
      ]
