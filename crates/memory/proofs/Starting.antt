-- Wires at the start. Assumes nothing.
use Rattle.std.proofs.Common.{◌≡◌, ℕ, ◌+◌, ◌-◌, ◌≤◌, true, false, cond, ltb, List, length, get_or, take, drop, replicate, sym, ap, ◌∙◌, subst, inl, inr, arith}
use borrow.Rule.Slice.PartMut.{put_mid}
use Rattle.std.proofs.lemmas.Bool.{cases_lt, lt-ltb, le-ltb}
use Rattle.std.proofs.lemmas.List.{length-replicate, get_or-replicate, length-take-le, length-drop}
use Rattle.wires.specs.Wires.{Grown, Filled}
use Rattle.wires.proofs.Growth.{put_grown, filled_grown}

module _ {T : Type 0} where
  -- a part in the middle is zero
  pub put_zeros : (i m k n : ℕ) (z : T) (old ys : List T) → i + m ≤ length old → k ≡ m → n ≡ m → ys ≡ replicate n z → Grown i m (λ _. z) old (put_mid i k old ys)
  put_zeros i m k n z old ys room ek en e =
      put_grown i m k (λ _. z) old ys ek (ap length e ∙ length-replicate n z ∙ en) room z (λ j h. ap (λ zs. get_or zs j z) e ∙ get_or-replicate n j z z (omega arith))

  -- the first i wires, and zeros up to t
  pub zeros_then : (i t : ℕ) (f : ℕ → T) (z : T) (old mid new : List T) → i ≤ t → Grown i (t - i) (λ _. z) old mid → Filled i f mid new → Filled t (λ w. cond (ltb w i) (f w) z) old new
  zeros_then i t f z old mid new l a b = record {
    long = b.long ∙ a.long;
    front = λ w d h. elim (cases_lt w i) [
      | inl lt ↦ (let e : ltb w i ≡ true = lt-ltb w i lt in rw e (b.front w d lt))
      | inr ge ↦ (
          let e : ltb w i ≡ false = le-ltb w i ge in
          let at : i + (w - i) ≡ w = omega arith in
          rw e (b.past w d ge ∙ ap (λ (k : ℕ). get_or mid k d) (sym at) ∙ a.fresh (w - i) d (omega arith)))
    ];
    past = λ w d h. b.past w d (omega arith) ∙ a.past w d (omega arith);
  }

  -- zeros from the first wire on
  pub zeros_first : (t : ℕ) (z : T) (old new : List T) → Grown 0 t (λ _. z) old new → Filled t (λ _. z) old new
  zeros_first t z old new a = record {
    long = a.long;
    front = λ w d h. (let at : 0 + w ≡ w = omega arith in ap (λ (k : ℕ). get_or new k d) (sym at) ∙ a.fresh w d h);
    past = λ w d h. a.past w d (omega arith);
  }

  -- as `join_wires` leaves them: the first t cleared (e is t in another width)
  pub join_zeros : (t e : ℕ) (z : T) (old ys : List T) → e ≡ t → t ≤ length old → ys ≡ replicate (length (take e old)) z → Filled t (λ _. z) old (put_mid 0 e old ys)
  join_zeros t e z old ys p room h =
      let n = length-take-le e old (omega arith) in
      zeros_first t z old _ (put_zeros 0 t e (length (take e old)) z old ys (omega arith) (omega arith) (omega arith) h)

  -- as `open_wires` leaves them: those from i up to t cleared, and then the first i made
  pub open_zeros : (i t a e : ℕ) (f : ℕ → T) (z : T) (old ys mid new : List T) → a ≡ i → e ≡ t → i ≤ t → t ≤ length old → ys ≡ replicate (length (take (e - a) (drop a old))) z → mid ≡ put_mid a (e - a) old ys
      → Filled i f mid new → Filled t (λ w. cond (ltb w i) (f w) z) old new
  open_zeros i t a e f z old ys mid new p q l room h m b =
      let d = length-drop a old in
      let n = length-take-le (e - a) (drop a old) (omega arith) in
      let g : Grown i (t - i) (λ _. z) old (put_mid i (e - a) old ys) = put_zeros i (t - i) (e - a) (length (take (e - a) (drop a old))) z old ys (omega arith) (omega arith) (omega arith) h in
      zeros_then i t f z old mid new l (subst (λ (zs : List T). Grown i (t - i) (λ _. z) old zs) (ap (λ k. put_mid k (e - a) old ys) (sym p) ∙ sym m) g) b

  -- one wire more, which is made next
  pub next : (k made : ℕ) (f : ℕ → T) (x : T) (old mid new : List T) → made ≡ k → x ≡ f k → Filled k f old mid → Grown made 1 (λ _. x) mid new → Filled (k + 1) f old new
  next k made f x old mid new e here a b =
      filled_grown k 1 f (λ _. x) old mid new a (subst (λ (n : ℕ). Grown n 1 (λ _. x) mid new) e b) (λ j l. let z : k ≡ k + j = omega arith in here ∙ ap f z)
