-- Parts of lists: what they hold, and what a list holds once a part of it was written. Assumes nothing.
use Rattle.std.proofs.Common.{◌≡◌, ℕ, ◌+◌, ◌<◌, ◌≤◌, List, ◌++◌, length, get_or, take, drop, sym, ap, ◌∙◌, arith}
use borrow.Rule.Slice.PartMut.{put_mid}
use Rattle.std.proofs.lemmas.List.{get_or-take, get_or-drop, get_or_append_left, get_or-append-add, length-take, length-take-le, length-drop, length-append}

module _ {X : Type 0} where
  pub part_at : (a k : ℕ) (xs : List X) (i p : ℕ) (d : X) → i < k → p ≡ a + i → get_or (take k (drop a xs)) i d ≡ get_or xs p d
  part_at a k xs i p d l e = get_or-take k (drop a xs) i d l ∙ get_or-drop a xs i d ∙ ap (λ q. get_or xs q d) (sym e)

  pub part_long : (a k : ℕ) (xs : List X) → a + k ≤ length xs → length (take k (drop a xs)) ≡ k
  part_long a k xs l = length-take-le k (drop a xs) (omega (arith, length-drop a xs))

  pub front_at : (k : ℕ) (xs : List X) (i p : ℕ) (d : X) → i < k → p ≡ i → get_or (take k xs) i d ≡ get_or xs p d
  front_at k xs i p d l e = get_or-take k xs i d l ∙ ap (λ q. get_or xs q d) (sym e)

  -- ys written from the place a on, in place of k places
  pub mid_at : (a k : ℕ) (xs ys : List X) (i p : ℕ) (d : X) → i < length ys → a ≤ length xs → p ≡ a + i → get_or (put_mid a k xs ys) p d ≡ get_or ys i d
  mid_at a k xs ys i p d l h e =
      let n = length-take-le a xs h in
      let q : p ≡ length (take a xs) + i = omega arith in
      ap (λ j. get_or (put_mid a k xs ys) j d) q ∙ get_or-append-add (take a xs) (ys ++ drop k (drop a xs)) i d ∙ get_or_append_left ys (drop k (drop a xs)) d i l

  pub mid_before : (a k : ℕ) (xs ys : List X) (i : ℕ) (d : X) → i < a → a ≤ length xs → get_or (put_mid a k xs ys) i d ≡ get_or xs i d
  mid_before a k xs ys i d l h =
      let n = length-take-le a xs h in
      get_or_append_left (take a xs) (ys ++ drop k (drop a xs)) d i (omega arith) ∙ get_or-take a xs i d l

  pub mid_long : (a k : ℕ) (xs ys : List X) → a + k ≤ length xs → length ys ≡ k → length (put_mid a k xs ys) ≡ length xs
  mid_long a k xs ys l e =
      let h : length (take a xs ++ (ys ++ drop k (drop a xs))) ≡ length xs =
      omega (arith, length-append (take a xs) (ys ++ drop k (drop a xs)), length-append ys (drop k (drop a xs)), length-take-le a xs (omega arith), length-drop k (drop a xs), length-drop a xs) in
      h

  pub front_long : (k : ℕ) (xs ys : List X) → length ys ≡ length (take k xs) → length (ys ++ drop k xs) ≡ length xs
  front_long k xs ys e = omega (arith, length-append ys (drop k xs), length-take k xs, length-drop k xs)
