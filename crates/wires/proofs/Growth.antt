-- Wires made one after another. Assumes nothing.
use Rattle.std.proofs.Common.{◌≡◌, ℕ, ◌+◌, ◌-◌, ◌<◌, ◌≤◌, List, ◌++◌, length, get_or, take, drop, sym, ap, ◌∙◌, subst, inl, inr, arith}
use borrow.Rule.Slice.PartMut.{put_mid, post_of}
use Rattle.std.proofs.lemmas.Bool.{cases_lt}
use Rattle.std.proofs.lemmas.List.{get_or_default, get_or_append_left, get_or-append_right, get_or-take, get_or-drop, length-take-le, length-append, length-drop, drop-drop}
use Rattle.wires.specs.Wires.{Grown, Filled}

module _ {T : Type 0} where
  -- a gate's wires behind those that are there
  pub filled_grown : (n m : ℕ) (f h : ℕ → T) (old mid new : List T) → Filled n f old mid → Grown n m h mid new → ((j : ℕ) → j < m → h j ≡ f (n + j)) → Filled (n + m) f old new
  filled_grown n m f h old mid new a b e = record {
    long = b.long ∙ a.long;
    front = λ w d l. elim (cases_lt w n) [
      | inl lt ↦ b.kept w d lt ∙ a.front w d lt
      | inr ge ↦ (
          let at : n + (w - n) ≡ w = omega arith in
          let p = b.fresh (w - n) d (omega arith) in
          let q = e (w - n) (omega arith) in
          subst (λ (k : ℕ). get_or new k d ≡ f k) at (p ∙ q))
    ];
    past = λ w d l. b.past w d l ∙ a.past w d (omega arith);
  }

  -- one filling after another
  pub filled_on : (n m : ℕ) (f h : ℕ → T) (old mid new : List T) → n ≤ m → Filled n f old mid → Filled m h mid new → Filled m h old new
  filled_on n m f h old mid new l a b = record {
    long = b.long ∙ a.long;
    front = b.front;
    past = λ w d k. b.past w d k ∙ a.past w d (omega arith);
  }

  -- the same fact of lists that are equal
  pub filled_of : {n : ℕ} {f : ℕ → T} {old new xs ys : List T} → xs ≡ old → ys ≡ new → Filled n f old new → Filled n f xs ys
  filled_of {n} {f} {old} {new} {xs} {ys} p q a = subst (λ (zs : List T). Filled n f zs ys) (sym p) (subst (λ (zs : List T). Filled n f old zs) (sym q) a)

  -- values written to a part in the middle
  pub put_grown : (n m k : ℕ) (f : ℕ → T) (xs ys : List T) → k ≡ m → length ys ≡ m → n + m ≤ length xs → (e : T) → ((j : ℕ) → j < m → get_or ys j e ≡ f j) → Grown n m f xs (put_mid n k xs ys)
  put_grown n m k f xs ys ek l room none e =
      let front : length (take n xs) ≡ n = length-take-le n xs (omega arith) in
      let tail : post_of n k xs ≡ drop (n + k) xs = drop-drop k n xs in
      let both : length (ys ++ drop (n + k) xs) ≡ m + (length xs - (n + k)) = length-append ys (drop (n + k) xs) ∙ simp length-drop (omega arith) in
      let whole : put_mid n k xs ys ≡ take n xs ++ (ys ++ drop (n + k) xs) = ap (λ (t : List T). take n xs ++ (ys ++ t)) tail in
      record {
        long = ap length whole ∙ length-append (take n xs) (ys ++ drop (n + k) xs) ∙ omega arith;
        kept = λ w d lt. ap (λ (zs : List T). get_or zs w d) whole
            ∙ get_or_append_left (take n xs) (ys ++ drop (n + k) xs) d w (omega arith) ∙ get_or-take n xs w d lt;
        fresh = λ j d lt.
            let at : n + j - n ≡ j = omega arith in
            ap (λ (zs : List T). get_or zs (n + j) d) whole
            ∙ get_or-append_right (take n xs) (ys ++ drop (n + k) xs) n (n + j) d front (omega arith)
            ∙ ap (λ (i : ℕ). get_or (ys ++ drop (n + k) xs) i d) at
            ∙ get_or_append_left ys (drop (n + k) xs) d j (omega arith)
            ∙ get_or_default ys j d none (omega arith) ∙ e j lt;
        past = λ w d lt.
            let at : n + k + (w - n - m) ≡ w = omega arith in
            ap (λ (zs : List T). get_or zs w d) whole
            ∙ get_or-append_right (take n xs) (ys ++ drop (n + k) xs) n w d front (omega arith)
            ∙ get_or-append_right ys (drop (n + k) xs) m (w - n) d l (omega arith)
            ∙ get_or-drop (n + k) xs (w - n - m) d ∙ ap (λ (i : ℕ). get_or xs i d) at;
      }
