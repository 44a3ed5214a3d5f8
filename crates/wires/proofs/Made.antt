-- What a wire carries while gates are made. Assumes nothing.
use Rattle.std.proofs.Common.{◌≡◌, ℕ, zero, suc, ◌+◌, ◌-◌, ◌<◌, ◌≤◌, true, false, ltb, sym, ap, ◌∙◌, subst, inl, inr, arith}
use Rattle.std.proofs.lemmas.Bool.{cases_order, lt-ltb, le-ltb}
use Rattle.wires.specs.Wires.{wire_after}

pub rises : (f : ℕ → ℕ) → ((g : ℕ) → f g ≤ f (suc g)) → (g n : ℕ) → g ≤ n → f g ≤ f n
rises f up g zero l = let z : g ≡ zero = omega arith in subst (λ (k : ℕ). f g ≤ f k) z (omega arith)
rises f up g (suc n) l =
    elim (cases_order g (suc n)) [
      | inl same ↦ subst (λ (k : ℕ). f g ≤ f k) same (omega arith)
      | inr apart ↦ elim apart [
        | inl lt ↦ (let r : f g ≤ f n = rises f up g n (omega arith) in let u : f n ≤ f (suc n) = up n in omega arith)
        | inr gt ↦ absurd (omega arith)
      ]
    ]

module _ {T : Type 0} (made : ℕ → ℕ) (rule : ℕ → (ℕ → T) → ℕ → T) (given : ℕ → T) where
  -- a wire keeps its value
  pub wire_kept : (g w : ℕ) → w < made g → wire_after made rule given (suc g) w ≡ wire_after made rule given g w
  wire_kept g w h = let t : ltb w (made g) ≡ true = lt-ltb w (made g) h in rw t

  pub wire_fresh : (g j : ℕ) → wire_after made rule given (suc g) (made g + j) ≡ rule g (wire_after made rule given g) j
  wire_fresh g j =
      let t : ltb (made g + j) (made g) ≡ false = le-ltb (made g + j) (made g) (omega arith) in
      let at : made g + j - made g ≡ j = omega arith in
      rw (t, at)

  pub wire_stays : ((g : ℕ) → made g ≤ made (suc g)) → (g n w : ℕ) → g ≤ n → w < made g → wire_after made rule given n w ≡ wire_after made rule given g w
  wire_stays up g zero w l h = let z : g ≡ zero = omega arith in ap (λ (k : ℕ). wire_after made rule given k w) (sym z)
  wire_stays up g (suc n) w l h =
      elim (cases_order g (suc n)) [
        | inl same ↦ ap (λ (k : ℕ). wire_after made rule given k w) (sym same)
        | inr apart ↦ elim apart [
          | inl lt ↦ (
              let m : made g ≤ made n = rises made up g n (omega arith) in
              wire_kept n w (omega arith) ∙ wire_stays up g n w (omega arith) h)
          | inr gt ↦ absurd (omega arith)
        ]
      ]
