-- When a gate's form and places pass. Assumes nothing.
use Rattle.std.proofs.Common.{◌≡◌, ℕ, ◌+◌, ◌*◌, ◌/◌, ◌^◌, ◌<◌, ◌≤◌, true, false, length, Some, None, sym, ap, ◌∙◌, inl, inr, arith}
use Rattle.std.proofs.lemmas.Bool.Decides.{nat_tests}
use Rattle.std.proofs.lemmas.Bool.{cases_Bool}
use Rattle.circuit.specs.Forms.{known, is_table, fan_in}
use Rattle.circuit.specs.Parts.{Parts, Whole}
use Rattle.circuit.specs.Gates.{form_of, place_of, rows_from, past_arrays}
use Rattle.circuit.specs.Check.{shape_refusal}
use Rattle.circuit.specs.declared.refusal.Refusal.TheVariants.{UnknownForm, PastArray}

module _ (c : Parts) (g : ℕ) where
  unknown : known (form_of c g) ≡ false → shape_refusal c g ≡ Some (UnknownForm g)
  unfolding shape_refusal
  unknown e = rw e

  past : known (form_of c g) ≡ true → past_arrays c g ≡ true → shape_refusal c g ≡ Some (PastArray g)
  unfolding shape_refusal
  past e f = rw (e, f)

  fits : known (form_of c g) ≡ true → past_arrays c g ≡ false → shape_refusal c g ≡ None
  unfolding shape_refusal
  fits e f = rw (e, f)

  pub shape_known : shape_refusal c g ≡ None → known (form_of c g) ≡ true
  unfolding shape_refusal
  shape_known e =
      elim (cases_Bool (known (form_of c g))) [
        | inl t ↦ t
        | inr t ↦ (let u : shape_refusal c g ≡ Some (UnknownForm g) = unknown t in absurd (let z : ◌≡◌ {A = ℕ} 0 1 = cc in omega arith))
      ]

  -- XOR and AND, of the form f with its operands at the place p
  module _ (f p : ℕ) (ef : f ≡ form_of c g) (ep : p ≡ place_of c g) (whole : Whole c) (low : f ≤ 1) where
    simple_known : known (form_of c g) ≡ true
    simple_known = grind (arith, nat_tests)

    pub simple_past : length c.operands < 2 * (p + 2) → shape_refusal c g ≡ Some (PastArray g)
    simple_past l =
        let e : c.sizes.operands < place_of c g + 2 = omega (arith, whole.operands) in
        let t : past_arrays c g ≡ true = grind (arith, nat_tests) in
        past simple_known t

    pub simple_fits : 2 * (p + 2) ≤ length c.operands → shape_refusal c g ≡ None
    simple_fits l =
        let e : place_of c g + 2 ≤ c.sizes.operands = omega (arith, whole.operands) in
        let t : past_arrays c g ≡ false = grind (arith, nat_tests) in
        fits simple_known t

  -- a form f above 1, with its operands at the place p
  module _ (f p : ℕ) (ef : f ≡ form_of c g) (ep : p ≡ place_of c g) (whole : Whole c) (high : 1 < f) where
    pub table_unknown : is_table f ≡ false → shape_refusal c g ≡ Some (UnknownForm g)
    table_unknown e =
        let t : is_table (form_of c g) ≡ false = ap is_table (sym ef) ∙ e in
        let h : 1 < form_of c g = omega arith in
        let k : known (form_of c g) ≡ false = grind (arith, nat_tests) in
        unknown k

    module _ (is : is_table f ≡ true) where
      pub is_table_form : is_table (form_of c g) ≡ true
      is_table_form = ap is_table (sym ef) ∙ is

      table_known : known (form_of c g) ≡ true
      table_known = let t : is_table (form_of c g) ≡ true = is_table_form in grind (arith, nat_tests)

      pub operands_past : length c.operands < 2 * (p + (f / 256 + 1)) → shape_refusal c g ≡ Some (PastArray g)
      operands_past l =
          let h : 1 < form_of c g = omega arith in
          let e : c.sizes.operands < place_of c g + (fan_in (form_of c g) + 1) = omega (arith, whole.operands) in
          let t : past_arrays c g ≡ true = grind (arith, nat_tests) in
          past table_known t

      pub rows_past : (from : ℕ) → from ≡ rows_from c g → length c.rows < 2 * (from + 2 ^ (f / 256)) → shape_refusal c g ≡ Some (PastArray g)
      rows_past from er l =
          let h : 1 < form_of c g = omega arith in
          let n : 2 ^ (f / 256) ≡ 2 ^ fan_in (form_of c g) = ap (λ (k : ℕ). 2 ^ (k / 256)) ef in
          let e : c.sizes.rows < rows_from c g + 2 ^ fan_in (form_of c g) = omega (arith, whole.rows) in
          let t : past_arrays c g ≡ true = grind (arith, nat_tests) in
          past table_known t

      pub table_fits : (from : ℕ) → from ≡ rows_from c g → 2 * (p + (f / 256 + 1)) ≤ length c.operands → 2 * (from + 2 ^ (f / 256)) ≤ length c.rows → shape_refusal c g ≡ None
      table_fits from er l r =
          let h : 1 < form_of c g = omega arith in
          let n : 2 ^ (f / 256) ≡ 2 ^ fan_in (form_of c g) = ap (λ (k : ℕ). 2 ^ (k / 256)) ef in
          let e : place_of c g + (fan_in (form_of c g) + 1) ≤ c.sizes.operands = omega (arith, whole.operands) in
          let d : rows_from c g + 2 ^ fan_in (form_of c g) ≤ c.sizes.rows = omega (arith, whole.rows) in
          let t : past_arrays c g ≡ false = grind (arith, nat_tests) in
          fits table_known t
