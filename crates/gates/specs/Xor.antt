-- The XOR gate over any label kind: both sides ⊕ their labels. Assumes nothing.
use Rattle.std.specs.Prelude.{◌≡◌, Bool}
use Rattle.labels.specs.Kind.{Kind, times, differs}

module _ {L : Type 0} (K : Kind L) where
  -- r is the new wire's label of the bits' XOR, whenever a and b are labels of two bits on wires with zero labels A and B
  abbrev pub Meets : L → L → L → Type 0
  Meets a b r =
      (Δ A B : L) (x y : Bool) → a ≡ K.xor A (times K x Δ) → b ≡ K.xor B (times K y Δ)
      → r ≡ K.xor (K.xor A B) (times K (differs x y) Δ)

  abbrev pub Sound : Type 0
  Sound =
      (Δ A B : L) (x y : Bool)
      → K.xor (K.xor A (times K x Δ)) (K.xor B (times K y Δ)) ≡ K.xor (K.xor A B) (times K (differs x y) Δ)
