-- What `all_below` tells of each place. Assumes nothing.
use Rattle.std.proofs.Common.{◌≡◌, ℕ, zero, suc, ◌<◌, ◌≤◌, Bool, true, false, ltb, List, length, get_or, MatchBool, Decides, refl, sym, inl, inr, arith}
use Rattle.std.specs.List.{AllWithin, HoldsAt}
use Rattle.std.proofs.lemmas.Bool.Decides.{Decides-ltb, Decides-below_and}
use Rattle.std.proofs.lemmas.Bool.{cases_Bool}
use Rattle.circuit.specs.Words.{all_below}

module _ (f : ℕ → ℕ) (n bound : ℕ) where
  pub below_decides : Decides (all_below f n bound) ((k : ℕ) → k < n → f k < bound)
  below_decides = Decides-below_and (λ k. ltb (f k) bound) (λ k. f k < bound) (λ k. all_below f k bound) (λ k. Decides-ltb (f k) bound) refl (λ _. refl) n

  pub each_below : all_below f n bound ≡ true → (k : ℕ) → k < n → f k < bound
  each_below = below_decides.0

  pub below_all : ((k : ℕ) → k < n → f k < bound) → all_below f n bound ≡ true
  below_all = below_decides.1

  -- one place at the bound or above
  pub below_not : (k : ℕ) → k < n → bound ≤ f k → all_below f n bound ≡ false
  below_not k h l =
      elim (cases_Bool (all_below f n bound)) [
        | inl e ↦ (let b : f k < bound = each_below e k h in absurd (omega arith))
        | inr e ↦ e
      ]

-- the same places give the same answer
pub below_same : (f h : ℕ → ℕ) (n bound : ℕ) → ((k : ℕ) → k < n → f k ≡ h k) → all_below f n bound ≡ all_below h n bound
below_same f h zero bound e = refl
below_same f h (suc n) bound e =
    let here : f n ≡ h n = e n (omega arith) in
    let rest : all_below f n bound ≡ all_below h n bound = below_same f h n bound (λ k l. e k (omega arith)) in
    rw (here, rest)

-- the answer of a search over a list whose places hold f 0 to f (n - 1)
pub below_from_all : (f : ℕ → ℕ) (g : ℕ → ℕ) (xs : List ℕ) (n bound : ℕ) (r : Bool) → length xs ≡ n → ((k : ℕ) → k < n → g (get_or xs k 0) ≡ f k)
    → MatchBool r (AllWithin (λ x. g x < bound) xs 0 (length xs)) ((k : ℕ) × (k < length xs) × HoldsAt (λ x. bound ≤ g x) xs k) → r ≡ all_below f n bound
below_from_all f g xs n bound true long same all =
    sym (below_all f n bound (λ k h. let e = same k h in let a : g (get_or xs k 0) < bound = all k 0 (omega arith) (omega arith) in omega arith))
below_from_all f g xs n bound false long same none =
    sym (below_not f n bound none.0 (omega arith) (let h : none.0 < n = omega arith in let e = same none.0 h in let a : bound ≤ g (get_or xs none.0 0) = none.2 0 in omega arith))
