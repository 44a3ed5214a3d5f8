-- Step 1 of the table gate: the evaluator's V is the garbler's with Δ at its own place. Assumes nothing.
use Rattle.std.proofs.Common.{◌≡◌, ℕ, zero, suc, ◌+◌, ◌-◌, ◌*◌, ◌^◌, ◌<◌, ◌≤◌, Bool, true, false, cond, eqb, sym, refl, ap, ◌∙◌, ap₂, inl, inr, arith}
use Rattle.std.proofs.lemmas.Bool.{cases_lt, cases_eq, eq-eqb, ne_eqb, lt-ltb, le-ltb}
use Rattle.gates.specs.Tweak.{tweak}
use Rattle.labels.specs.Kind.{Kind, times}
use Rattle.labels.proofs.Group.{group}
use Rattle.tables.specs.Table.{sum, grown, filled, hashed, hot, hot_row, seen, colours}
use Rattle.labels.proofs.Numbers.{two_pow, number_below}
use Rattle.tables.proofs.Sums.{sum_off}

pub eqb_same : (a b c d : ℕ) → (a ≡ b → c ≡ d) → (c ≡ d → a ≡ b) → eqb a b ≡ eqb c d
eqb_same a b c d f g =
    elim (cases_eq a b) [ inl e ↦ eq-eqb a b e ∙ sym (eq-eqb c d (f e)) | inr e ↦ ne_eqb a b e ∙ sym (ne_eqb c d (λ q. e (g q))) ]

module _ {L : Type 0} (K : Kind L) where
  pub times_zero : (v : Bool) → times K v K.zero ≡ K.zero
  times_zero true = refl
  times_zero false = refl

  there_back : (x y : L) → K.xor x K.zero ≡ K.xor (K.xor x y) y
  there_back x y = simp group

  module _ (Δ : L) where
    -- W is V with Δ at x
    abbrev pub Off : ℕ → ℕ → (ℕ → L) → (ℕ → L) → Type 0
    Off w x V W = (i : ℕ) → i < w → W i ≡ K.xor (V i) (times K (eqb i x) Δ)

    grown_off : (w x : ℕ) (b : Bool) (V W c e : ℕ → L) → x < w → Off w x V W → ((i : ℕ) → i < w → e i ≡ K.xor (c i) (times K (eqb i x) (times K b Δ)))
        → Off (w + w) (cond b 1 0 * w + x) (grown K w V c) (grown K w W e)
    grown_off w x true V W c e l h k i g =
        elim (cases_lt i w) [
          | inl a ↦ rw (lt-ltb i w a, ne_eqb i (1 * w + x) (omega arith)) (ap₂ K.xor (k i a) (h i a) ∙ simp group)
          | inr a ↦ rw (le-ltb i w a) (k (i - w) (omega arith) ∙ ap (λ v. K.xor (c (i - w)) (times K v Δ)) (eqb_same (i - w) x i (1 * w + x) (λ q. omega arith) (λ q. omega arith)))
        ]
    grown_off w x false V W c e l h k i g =
        elim (cases_lt i w) [
          | inl a ↦
              rw (lt-ltb i w a)
              (ap₂ K.xor (k i a) (h i a) ∙ ap (λ y. K.xor (K.xor (c i) y) (K.xor (V i) (times K (eqb i x) Δ))) (times_zero (eqb i x))
              ∙ ap (λ v. K.xor (K.xor (c i) K.zero) (K.xor (V i) (times K v Δ))) (eqb_same i x i (0 * w + x) (λ q. omega arith) (λ q. omega arith)) ∙ simp group)
          | inr a ↦ rw (le-ltb i w a, ne_eqb i (0 * w + x) (omega arith)) (k (i - w) (omega arith) ∙ ap (K.xor (c (i - w))) (times_zero (eqb (i - w) x)))
        ]

    module _ (F : L → ℕ → L) (gate : ℕ) where
      hashed_same : (w x : ℕ) (V W : ℕ → L) → Off w x V W → (i : ℕ) → i < w → (i ≡ x → ⊥) → hashed K F gate w W i ≡ hashed K F gate w V i
      hashed_same w x V W h i l ne = ap (λ y. F y (tweak gate (w + i))) (h i l ∙ ap (λ v. K.xor (V i) (times K v Δ)) (ne_eqb i x ne) ∙ K.right (V i))

      -- the sum of all c but one
      others : (w x : ℕ) (V W : ℕ → L) → x < w → Off w x V W
          → sum K w (λ k. cond (eqb k x) K.zero (hashed K F gate w W k)) ≡ K.xor (sum K w (hashed K F gate w V)) (hashed K F gate w V x)
      others w x V W l h =
          sum_off K w x (hashed K F gate w V) (λ k. cond (eqb k x) K.zero (hashed K F gate w W k)) (hashed K F gate w V) l
          (λ i g. elim (cases_eq i x) [
            | inl q ↦ rw (eq-eqb i x q) (simp group)
            | inr q ↦ rw (ne_eqb i x q) (hashed_same w x V W h i g q ∙ simp group)
          ])

      strike : (B S D c : L) → K.xor (K.xor (K.xor B S) (K.xor B D)) (K.xor S c) ≡ K.xor c D
      strike B S D c = simp group

      filled_off : (w x : ℕ) (b : Bool) (B E row : L) (V W : ℕ → L) → x < w → Off w x V W → E ≡ K.xor B (times K b Δ) → row ≡ K.xor B (sum K w (hashed K F gate w V))
          → (i : ℕ) → i < w → filled K w x (K.xor row E) (hashed K F gate w W) i ≡ K.xor (hashed K F gate w V i) (times K (eqb i x) (times K b Δ))
      filled_off w x b B E row V W l h eE er i g =
          elim (cases_eq i x) [
            | inl q ↦ rw (eq-eqb i x q)
                (ap₂ K.xor (ap₂ K.xor er eE) (others w x V W l h) ∙ strike B (sum K w (hashed K F gate w V)) (times K b Δ) (hashed K F gate w V x)
                ∙ ap (λ y. K.xor (hashed K F gate w V y) (times K b Δ)) (sym q))
            | inr q ↦ rw (ne_eqb i x q) (hashed_same w x V W h i g q ∙ simp group)
          ]

      first_off : (v : Bool) (B E : L) → E ≡ K.xor B (times K v Δ) → (i : ℕ) → i < 2
          → E ≡ K.xor (cond (eqb i 0) (K.xor B Δ) B) (times K (eqb i (cond v 1 0 * 1 + 0)) Δ)
      first_off true B E e zero l = e ∙ sym (K.right (K.xor B Δ))
      first_off false B E e zero l = e ∙ there_back B Δ
      first_off true B E e (suc zero) l = e
      first_off false B E e (suc zero) l = e
      first_off v B E e (suc (suc i)) l = absurd (omega arith)

      pub hot_off : (rows B E : ℕ → L) (n : ℕ) → ((k : ℕ) → k < n → E k ≡ K.xor (B k) (times K (K.colour (E k)) Δ))
          → ((k : ℕ) → 1 ≤ k → k < n → rows k ≡ hot_row K F gate Δ B k) → (j : ℕ) → 1 ≤ j → j ≤ n → Off (2 ^ j) (colours K j E) (hot K F gate Δ B j) (seen K F gate rows E j)
      hot_off rows B E n hE hr zero l g = absurd (omega arith)
      hot_off rows B E n hE hr (suc zero) l g = first_off (K.colour (E 0)) (B 0) (E 0) (hE 0 (omega arith))
      hot_off rows B E n hE hr (suc (suc j)) l g =
          let below = number_below (suc j) (λ k. K.colour (E k)) in
          let ih = hot_off rows B E n hE hr (suc j) (omega arith) (omega arith) in
          λ i a.
          grown_off (2 ^ suc j) (colours K (suc j) E) (K.colour (E (suc j))) (hot K F gate Δ B (suc j)) (seen K F gate rows E (suc j)) _ _ below ih
          (filled_off (2 ^ suc j) (colours K (suc j) E) (K.colour (E (suc j))) (B (suc j)) (E (suc j)) (rows (suc j)) (hot K F gate Δ B (suc j)) (seen K F gate rows E (suc j)) below ih
          (hE (suc j) (omega arith)) (hr (suc j) (omega arith) (omega arith)))
          i (omega (arith, two_pow (suc j)))
