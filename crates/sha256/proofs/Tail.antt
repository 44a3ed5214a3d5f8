-- What the three writes of the padding leave. Assumes nothing.
use Rattle.std.proofs.Common.{◌≡◌, ℕ, suc, ◌+◌, ◌-◌, ◌≤◌, List, ◌∷◌, ◌++◌, length, take, drop, set, replicate, sym, refl, ap, ◌∙◌, ap₂, arith}
use borrow.Rule.Slice.PartMut.{put_mid}
use Rattle.std.proofs.lemmas.List.{length-append, length-replicate, replicate-append-replicate, drop-replicate, take-replicate, length-take-le, set_at, take_at, drop_at, append_assoc, append-nil}

module _ (rest : List ℕ) (k : ℕ) where
  -- the rest, the byte 0x80 and k zeros
  front : List ℕ
  front = rest ++ (128 ∷ replicate k 0)

  blank : (zs : List ℕ) → zs ≡ replicate (length rest + 9 + k) 0 → drop (length rest) zs ≡ 0 ∷ (replicate k 0 ++ replicate 8 0)
  blank zs e =
      let n : length rest + 9 + k - length rest ≡ suc (k + 8) = omega arith in
      ap (λ (l : List ℕ). drop (length rest) l) e
      ∙ drop-replicate (length rest) (length rest + 9 + k) 0
      ∙ ap (λ (j : ℕ). replicate j 0) n
      ∙ ap (λ (l : List ℕ). 0 ∷ l) (sym (replicate-append-replicate k 8 0))

  marked : (zs : List ℕ) → zs ≡ replicate (length rest + 9 + k) 0 → set (rest ++ drop (length rest) zs) (length rest) 128 ≡ front ++ replicate 8 0
  unfolding front
  marked zs e =
      ap (λ (l : List ℕ). set (rest ++ l) (length rest) 128) (blank zs e)
      ∙ set_at rest 0 (replicate k 0 ++ replicate 8 0) 128 (length rest) refl
      ∙ sym (append_assoc rest (128 ∷ replicate k 0) (replicate 8 0))

  pub written : (zs ys : List ℕ) (a n : ℕ) → zs ≡ replicate (length rest + 9 + k) 0 → a ≡ length rest + 1 + k → n ≡ 8
      → put_mid a n (set (rest ++ drop (length rest) zs) (length rest) 128) ys ≡ rest ++ (128 ∷ (replicate k 0 ++ ys))
  unfolding front
  written zs ys a n e p q =
      let long : length (rest ++ (128 ∷ replicate k 0)) ≡ a = simp (length-append, length-replicate) (omega arith) in
      let f = marked zs e in
      let t = take_at front (replicate 8 0) a long in
      let d = drop_at front (replicate 8 0) a long in
      ap (λ (l : List ℕ). put_mid a n l ys) f
      ∙ ap₂ (λ (l r : List ℕ). l ++ (ys ++ drop n r)) t d
      ∙ ap (λ (j : ℕ). front ++ (ys ++ drop j (replicate 8 0))) q
      ∙ ap (λ (l : List ℕ). front ++ l) (append-nil ys)
      ∙ append_assoc rest (128 ∷ replicate k 0) ys

-- the front of a blank array is blank
abbrev pub blank_array : List ℕ
blank_array = replicate 128 0

pub length_front : (n : ℕ) → n ≤ 128 → length (take n blank_array) ≡ n
length_front n h = length-take-le n blank_array h

pub blank_front : (n : ℕ) → n ≤ 128 → take n blank_array ≡ replicate (length (take n blank_array)) 0
blank_front n h = take-replicate n 128 0 h ∙ ap (λ (j : ℕ). replicate j 0) (sym (length_front n h))
