-- The AND half gate over any label kind and any function F of a label and a tweak, as gate g. Assumes nothing.
use Rattle.std.specs.Prelude.{◌≡◌, ℕ, Bool, true, ◌&&◌}
use Rattle.labels.specs.Kind.{Kind, times}
use Rattle.gates.specs.Tweak.{tweak}

module _ {L : Type 0} (K : Kind L) (F : L → ℕ → L) (g : ℕ) where
  -- the last formula of both sides: F(A,0) ⊕ p·T ⊕ F(B,1) ⊕ r·(U⊕A), for the colours p of A and r of B
  abbrev pub joined : L → L → L → L → L
  joined T U A B = K.xor (K.xor (F A (tweak g 0)) (times K (K.colour A) T)) (K.xor (F B (tweak g 1)) (times K (K.colour B) (K.xor U A)))

  -- T = F(A,0) ⊕ F(A⊕Δ,0) ⊕ r·Δ
  abbrev pub row_t : L → L → L → L
  row_t Δ A B = K.xor (K.xor (F A (tweak g 0)) (F (K.xor A Δ) (tweak g 0))) (times K (K.colour B) Δ)

  -- U = F(B,1) ⊕ F(B⊕Δ,1) ⊕ A
  abbrev pub row_u : L → L → L → L
  row_u Δ A B = K.xor (K.xor (F B (tweak g 1)) (F (K.xor B Δ) (tweak g 1))) A

  -- the rows T and U, and the new wire's zero label
  abbrev pub garbled : L → L → L → L × L × L
  garbled Δ A B = (row_t Δ A B, row_u Δ A B, joined (row_t Δ A B) (row_u Δ A B) A B)

  -- r is the new wire's label of the bits' AND, whenever T and U are the rows of some zero labels and a, b are labels of two bits on those wires
  abbrev pub Meets : L → L → L → L → L → Type 0
  Meets T U a b r =
      (Δ A B : L) (x y : Bool) → K.colour Δ ≡ true → T ≡ (garbled Δ A B).0 → U ≡ (garbled Δ A B).1 → a ≡ K.xor A (times K x Δ) → b ≡ K.xor B (times K y Δ)
      → r ≡ K.xor (garbled Δ A B).2 (times K (x && y) Δ)

abbrev pub Sound : {L : Type 0} → Kind L → Type 0
Sound {L} K =
    (F : L → ℕ → L) (g : ℕ) (Δ A B : L) (x y : Bool) → K.colour Δ ≡ true
    → joined K F g (garbled K F g Δ A B).0 (garbled K F g Δ A B).1 (K.xor A (times K x Δ)) (K.xor B (times K y Δ)) ≡ K.xor (garbled K F g Δ A B).2 (times K (x && y) Δ)
