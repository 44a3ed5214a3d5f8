-- What it tells that all inputs are marked, or one is not. Assumes nothing.
use Rattle.std.proofs.Common.{◌≡◌, ℕ, zero, suc, ◌<◌, ◌≤◌, Bool, true, false, ◌&&◌, List, Some, None, Option, MatchOption, IfSome, IfNone, refl, ◌∙◌, ap₂, inl, inr, arith}
use Rattle.std.proofs.lemmas.Bool.{cases_eq, cases_Bool}
use Rattle.labels.specs.Longs.{and_left, and_right}
use Rattle.parties.specs.Marks.{is_marked, all_marked, Lowest}

module _ (marks : List Bool) where
  pub each_marked : (n : ℕ) → all_marked marks n ≡ true → (k : ℕ) → k < n → is_marked marks k ≡ true
  each_marked zero e k h = absurd (omega arith)
  each_marked (suc n) e k h =
      elim (cases_eq k n) [
        | inl p ↦ (λ i. is_marked marks (p i)) ∙ and_left (is_marked marks n) (all_marked marks n) e
        | inr p ↦ each_marked n (and_right (is_marked marks n) (all_marked marks n) e) k (omega arith)
      ]

  pub marked_all : (n : ℕ) → ((k : ℕ) → k < n → is_marked marks k ≡ true) → all_marked marks n ≡ true
  marked_all zero h = refl
  marked_all (suc n) h = ap₂ ◌&&◌ (h n (omega arith)) (marked_all n (λ k l. h k (omega arith)))

  -- one that is not
  pub lowest_not : (n i : ℕ) → Lowest marks n i → all_marked marks n ≡ false
  lowest_not n i l =
      elim (cases_Bool (all_marked marks n)) [
        | inl e ↦ (let m : is_marked marks i ≡ true = each_marked n e i l.below in let u = l.unmarked in absurd (let z : ◌≡◌ {A = ℕ} 0 1 = cc in omega arith))
        | inr e ↦ e
      ]

  -- as a search for the lowest that is not tells
  abbrev Search : ℕ → Option ℕ → Type 0
  Search n r =
      MatchOption r ((k : ℕ) → 0 ≤ k → k < n → is_marked marks k ≡ true)
      (λ i. (0 ≤ i) × (i < n) × (is_marked marks i ≡ false) × ((k : ℕ) → 0 ≤ k → k < i → is_marked marks k ≡ true))

  pub lowest_found : (n : ℕ) (r : Option ℕ) → Search n r → IfSome r (λ i. Lowest marks n i)
  lowest_found n (Some i) h = record { below = h.1; unmarked = h.2; least = λ k l. h.3 k (omega arith) l }
  lowest_found n None h = tt

  pub none_found : (n : ℕ) (r : Option ℕ) → Search n r → IfNone r (all_marked marks n ≡ true)
  none_found n (Some i) h = tt
  none_found n None h = marked_all n (λ k l. h k (omega arith) l)
