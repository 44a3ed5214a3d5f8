-- How the refusals of the gates and of the whole circuit come about. Assumes nothing.
use Rattle.std.proofs.Common.{◌≡◌, ℕ, zero, suc, ◌<◌, ◌≤◌, Bool, true, false, not, ltb, [], ◌∷◌, Some, None, Option, refl, inl, inr, arith}
use Rattle.std.proofs.lemmas.Bool.{lt-ltb, le-ltb, cases_order, not-false}
use Rattle.circuit.specs.Refusals.{first_of, or_else}
use Rattle.circuit.specs.Parts.{Parts}
use Rattle.circuit.specs.Gates.{made_before, in_order, rows_fit}
use Rattle.circuit.specs.Check.{shape_refusal, wires_refusal, gate_refusal, gates_refusal, most_wires}
use Rattle.circuit.specs.declared.refusal.Refusal.{Refusal}
use Rattle.circuit.specs.declared.refusal.Refusal.TheVariants.{TooManyWires, NotMade, WideRow}

-- no refusal at one place, so none there
pub or_else_none : (a b : Option Refusal) → or_else a b ≡ None → (a ≡ None) × (b ≡ None)
or_else_none (Some why) b e = absurd (let z : ◌≡◌ {A = ℕ} 0 1 = cc in omega arith)
or_else_none None b e = (refl, e)

-- one test, which is not met
pub only_none : (a : Bool) (x : Refusal) → first_of ((not a, x) ∷ []) ≡ None → a ≡ true
only_none true x e = refl
only_none false x e = absurd (let q : ◌≡◌ {A = ℕ} 0 1 = cc in omega arith)

-- of three tests, none is met
none_of : (a b d : Bool) (x y z : Refusal) → first_of ((a, x) ∷ (b, y) ∷ (d, z) ∷ []) ≡ None → b ≡ false
none_of true b d x y z e = absurd (let q : ◌≡◌ {A = ℕ} 0 1 = cc in omega arith)
none_of false true d x y z e = absurd (let q : ◌≡◌ {A = ℕ} 0 1 = cc in omega arith)
none_of false false d x y z e = refl

module _ (c : Parts) where
  wires_in_order : (g : ℕ) → wires_refusal c g ≡ None → in_order c g ≡ true
  unfolding wires_refusal
  wires_in_order g e = not-false (in_order c g) (none_of (ltb most_wires (made_before c (suc g))) (not (in_order c g)) (not (rows_fit c g)) _ _ _ e)

  -- one gate, of a known form and with its places within the arrays, after which w wires are made
  module _ (g w : ℕ) (shape : shape_refusal c g ≡ None) (made : w ≡ made_before c (suc g)) where
    over : most_wires < w → wires_refusal c g ≡ Some (TooManyWires g)
    unfolding wires_refusal
    over h = let t : ltb most_wires (made_before c (suc g)) ≡ true = lt-ltb most_wires (made_before c (suc g)) (omega arith) in rw t

    pub too_many : most_wires < w → gate_refusal c g ≡ Some (TooManyWires g)
    too_many h = rw shape (over h)

    module _ (few : w ≤ most_wires) where
      under : ltb most_wires (made_before c (suc g)) ≡ false
      under = le-ltb most_wires (made_before c (suc g)) (omega arith)

      early : in_order c g ≡ false → wires_refusal c g ≡ Some (NotMade g)
      unfolding wires_refusal
      early e = rw (under, e)

      pub not_made : in_order c g ≡ false → gate_refusal c g ≡ Some (NotMade g)
      not_made e = rw shape (early e)

      wide : in_order c g ≡ true → rows_fit c g ≡ false → wires_refusal c g ≡ Some (WideRow g)
      unfolding wires_refusal
      wide e f = rw (under, e, f)

      pub wide_row : in_order c g ≡ true → rows_fit c g ≡ false → gate_refusal c g ≡ Some (WideRow g)
      wide_row e f = rw shape (wide e f)

      none : in_order c g ≡ true → rows_fit c g ≡ true → wires_refusal c g ≡ None
      unfolding wires_refusal
      none e f = rw (under, e, f)

      pub gate_passes : in_order c g ≡ true → rows_fit c g ≡ true → gate_refusal c g ≡ None
      gate_passes e f = rw shape (none e f)

  -- the first gates
  pub gates_more : (g : ℕ) → gates_refusal c g ≡ None → gate_refusal c g ≡ None → gates_refusal c (suc g) ≡ None
  gates_more g e f = rw e f

  pub gates_stop : (g n : ℕ) (why : Refusal) → g < n → gates_refusal c g ≡ None → gate_refusal c g ≡ Some why → gates_refusal c n ≡ Some why
  gates_stop g zero why h e f = absurd (omega arith)
  gates_stop g (suc n) why h e f =
      elim (cases_order g n) [
        | inl same ↦ (let a : gates_refusal c n ≡ None = cc in let b : gate_refusal c n ≡ Some why = cc in rw a b)
        | inr apart ↦ elim apart [
          | inl lt ↦ (let r : gates_refusal c n ≡ Some why = gates_stop g n why lt e f in rw r)
          | inr gt ↦ absurd (omega arith)
        ]
      ]

  pub each_passes : (n : ℕ) → gates_refusal c n ≡ None → (g : ℕ) → g < n → gate_refusal c g ≡ None
  each_passes zero e g h = absurd (omega arith)
  each_passes (suc n) e g h =
      let p : (gates_refusal c n ≡ None) × (gate_refusal c n ≡ None) = or_else_none (gates_refusal c n) (gate_refusal c n) e in
      elim (cases_order g n) [
        | inl same ↦ (let q = p.1 in cc)
        | inr apart ↦ elim apart [ inl lt ↦ each_passes n p.0 g lt | inr gt ↦ absurd (omega arith) ]
      ]

  -- what a gate that passes tells
  pub gate_shape : (g : ℕ) → gate_refusal c g ≡ None → shape_refusal c g ≡ None
  gate_shape g e = (or_else_none (shape_refusal c g) (wires_refusal c g) e).0

  pub gate_in_order : (g : ℕ) → gate_refusal c g ≡ None → in_order c g ≡ true
  gate_in_order g e = wires_in_order g (or_else_none (shape_refusal c g) (wires_refusal c g) e).1
