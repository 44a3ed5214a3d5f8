-- Sums of labels. Assumes nothing.
use Rattle.std.proofs.Common.{◌≡◌, ℕ, zero, suc, ◌+◌, ◌<◌, ◌≤◌, Bool, true, false, eqb, sym, refl, ap, ◌∙◌, ap₂, inl, inr, add-one, arith}
use Rattle.std.proofs.lemmas.Bool.{cases_lt, eq-eqb, ne_eqb}
use Rattle.labels.specs.Kind.{Kind, times, differs}
use Rattle.labels.proofs.Group.{group}
use Rattle.labels.specs.Numbers.{bit}
use Rattle.tables.specs.Table.{sum, chosen}

module _ {L : Type 0} (K : Kind L) where
  -- (p ⊕ q)·Δ
  pub times_differs : (p q : Bool) (x : L) → times K (differs p q) x ≡ K.xor (times K p x) (times K q x)
  times_differs true true x = simp group
  times_differs true false x = simp group
  times_differs false true x = simp group
  times_differs false false x = simp group

  -- p·(x ⊕ q·y)
  pub times_spread : (p q : Bool) (x y : L) → times K p (K.xor x (times K q y)) ≡ K.xor (times K p x) (times K q (times K p y))
  times_spread true q x y = refl
  times_spread false true x y = simp group
  times_spread false false x y = simp group

  pub sum_ext : (n : ℕ) (f g : ℕ → L) → ((i : ℕ) → i < n → f i ≡ g i) → sum K n f ≡ sum K n g
  sum_ext zero f g h = refl
  sum_ext (suc n) f g h = ap₂ K.xor (sum_ext n f g (λ i l. h i (omega arith))) (h n (omega arith))

  -- a loop's step
  pub sum_more : (n : ℕ) (f : ℕ → L) (a c r : L) → a ≡ sum K n f → c ≡ f n → r ≡ K.xor a c → r ≡ sum K (n + 1) f
  sum_more n f a c r ea ec er = er ∙ ap₂ K.xor ea ec ∙ ap (λ k. sum K k f) (sym (add-one n))

  pub sum_all : (n k : ℕ) (f : ℕ → L) (r : L) → r ≡ sum K n f → n ≡ k → r ≡ sum K k f
  sum_all n k f r e q = e ∙ ap (λ i. sum K i f) q

  -- no term is at x
  sum_off_none : (n x : ℕ) (f e g : ℕ → L) → n ≤ x → ((i : ℕ) → i < n → e i ≡ K.xor (f i) (times K (eqb i x) (g i))) → sum K n e ≡ sum K n f
  sum_off_none n x f e g l h =
      sum_ext n e f (λ i k. h i k ∙ ap (λ v. K.xor (f i) (times K v (g i))) (ne_eqb i x (omega arith)) ∙ K.right (f i))

  -- two sums that differ at x alone
  pub sum_off : (n x : ℕ) (f e g : ℕ → L) → x < n → ((i : ℕ) → i < n → e i ≡ K.xor (f i) (times K (eqb i x) (g i))) → sum K n e ≡ K.xor (sum K n f) (g x)
  sum_off zero x f e g l h = absurd (omega arith)
  sum_off (suc n) x f e g l h =
      elim (cases_lt x n) [
        | inl k ↦ ap₂ K.xor (sum_off n x f e g k (λ i j. h i (omega arith))) (h n (omega arith) ∙ ap (λ v. K.xor (f n) (times K v (g n))) (ne_eqb n x (omega arith))) ∙ simp group
        | inr k ↦ (let q : n ≡ x = omega arith in
            ap₂ K.xor (sum_off_none n x f e g k (λ i j. h i (omega arith))) (h n (omega arith) ∙ ap (λ v. K.xor (f n) (times K v (g n))) (eq-eqb n x q) ∙ ap (λ y. K.xor (f n) (g y)) q) ∙ simp group)
      ]

  -- the same of the terms that are chosen
  pub chosen_off : (j n x : ℕ) (p q : ℕ → ℕ) (V W : ℕ → L) (Δ : L) → x < n → ((i : ℕ) → i < n → bit j (q i) ≡ bit j (p i)) → ((i : ℕ) → i < n → W i ≡ K.xor (V i) (times K (eqb i x) Δ))
      → chosen K j n q W ≡ K.xor (chosen K j n p V) (times K (bit j (p x)) Δ)
  chosen_off j n x p q V W Δ l e h =
      sum_off n x (λ i. times K (bit j (p i)) (V i)) (λ i. times K (bit j (q i)) (W i)) (λ i. times K (bit j (p i)) Δ) l
      (λ i k. ap₂ (λ v w. times K v w) (e i k) (h i k) ∙ times_spread (bit j (p i)) (eqb i x) (V i) Δ)
