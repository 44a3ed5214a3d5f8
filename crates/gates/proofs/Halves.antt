-- The XOR gate and the AND half gate are sound. Assumes nothing.
use Rattle.std.proofs.Common.{◌≡◌, ℕ, Bool, true, false, ◌&&◌, sym, refl, ap, ◌∙◌, ap₂}
use Rattle.labels.specs.Kind.{Kind, times, differs}
use Rattle.labels.proofs.Group.{bits, cancel}
use Rattle.gates.specs.Tweak.{tweak}
use Rattle.gates.specs.Xor as XorGate
use Rattle.gates.specs.Half.{Sound, Meets, joined, garbled}

module _ {L : Type 0} (K : Kind L) where
  pub xor_sound : XorGate.Sound K
  xor_sound Δ A B x y = simp bits

  pub xor_meets : (a b r : L) → r ≡ K.xor a b → XorGate.Meets K a b r
  xor_meets a b r e Δ A B x y ea eb = e ∙ ap₂ K.xor ea eb ∙ xor_sound Δ A B x y

  -- the gate at the hashes f₀, f₁ of A's two labels and g₀, g₁ of B's, and the colours p, r of the zero labels
  core : (x y p r : Bool) (A Δ f₀ f₁ g₀ g₁ : L) →
      let T : L = K.xor (K.xor f₀ f₁) (times K r Δ) in
      let U : L = K.xor (K.xor g₀ g₁) A in
      K.xor (K.xor (K.xor f₀ (times K x (K.xor f₀ f₁))) (times K (differs p x) T)) (K.xor (K.xor g₀ (times K y (K.xor g₀ g₁))) (times K (differs r y) (K.xor U (K.xor A (times K x Δ)))))
      ≡ K.xor (K.xor (K.xor f₀ (times K p T)) (K.xor g₀ (times K r (K.xor U A)))) (times K (x && y) Δ)
  core x y p r A Δ f₀ f₁ g₀ g₁ = simp bits

  -- what a function gives at a label of the bit x
  of_bit : (f : L → L) (A Δ : L) (x : Bool) → f (K.xor A (times K x Δ)) ≡ K.xor (f A) (times K x (K.xor (f A) (f (K.xor A Δ))))
  of_bit f A Δ true = sym (cancel K (f A) (f (K.xor A Δ)))
  of_bit f A Δ false = ap f (K.right A) ∙ sym (K.right (f A))

  differs_false : (p : Bool) → differs p false ≡ p
  differs_false true = refl
  differs_false false = refl

  pub colour_of_bit : (A Δ : L) (x : Bool) → K.colour Δ ≡ true → K.colour (K.xor A (times K x Δ)) ≡ differs (K.colour A) x
  colour_of_bit A Δ true h = K.colours A Δ ∙ ap (differs (K.colour A)) h
  colour_of_bit A Δ false h = ap K.colour (K.right A) ∙ sym (differs_false (K.colour A))

  pub sound : Sound K
  sound F g Δ A B x y h =
      let fa = of_bit (λ l. F l (tweak g 0)) A Δ x in
      let fb = of_bit (λ l. F l (tweak g 1)) B Δ y in
      let ca = colour_of_bit A Δ x h in
      let cb = colour_of_bit B Δ y h in
      let T = (garbled K F g Δ A B).0 in
      let U = (garbled K F g Δ A B).1 in
      (λ i. K.xor (K.xor (fa i) (times K (ca i) T)) (K.xor (fb i) (times K (cb i) (K.xor U (K.xor A (times K x Δ))))))
      ∙ core x y (K.colour A) (K.colour B) A Δ (F A (tweak g 0)) (F (K.xor A Δ) (tweak g 0)) (F B (tweak g 1)) (F (K.xor B Δ) (tweak g 1))

  pub meets : (F : L → ℕ → L) (g : ℕ) (T U a b r : L) → r ≡ joined K F g T U a b → Meets K F g T U a b r
  meets F g T U a b r e Δ A B x y h eT eU ea eb =
      e ∙ ap₂ (λ T' U'. joined K F g T' U' a b) eT eU ∙ ap₂ (λ a' b'. joined K F g (garbled K F g Δ A B).0 (garbled K F g Δ A B).1 a' b') ea eb ∙ sound F g Δ A B x y h
