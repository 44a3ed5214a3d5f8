-- The order of a circuit's wires. Assumes nothing.
use Rattle.std.proofs.Common.{◌≡◌, ℕ, zero, suc, ◌+◌, ◌-◌, ◌<◌, ◌≤◌, ◌⊎◌, List, None, subst, inl, inr, arith}
use Rattle.std.proofs.lemmas.Bool.{cases_lt}
use Rattle.wires.proofs.Made.{rises}
use Rattle.circuit.specs.Forms.{reads, makes}
use Rattle.circuit.specs.Parts.{Parts, parts_of}
use Rattle.circuit.specs.Gates.{form_of, operand_of, made_before}
use Rattle.circuit.specs.Check.{size_refusal, gates_refusal, circuit_refusal}
use Rattle.circuit.specs.Passed.{Passed}
use Rattle.circuit.proofs.Bounds.{each_below}
use Rattle.circuit.proofs.Checks.{or_else_none, each_passes, gate_shape, gate_in_order}
use Rattle.circuit.proofs.Circuits.{gates_pass}
use Rattle.circuit.proofs.Shapes.{shape_known}
use Rattle.circuit.proofs.GateParts.{made_rises}
use Rattle.laws.proofs.Ordered.{Ordered, MadeBelow}

-- a check that refuses no gate says so
pub ordered_gates : (c : Parts) → gates_refusal c c.sizes.gates ≡ None → Ordered c
ordered_gates c e = record {
  forms = λ g h. shape_known c g (gate_shape c g (each_passes c c.sizes.gates e g h));
  order = λ g i h l. each_below (operand_of c g) (reads (form_of c g)) (made_before c g) (gate_in_order c g (each_passes c c.sizes.gates e g h)) i l;
}

pub ordered_passed : (bytes : List ℕ) (c : Parts) (w : ℕ) → Passed bytes c w → Ordered c
ordered_passed bytes c w p = ordered_gates c (gates_pass bytes c w p)

pub ordered_check : (bytes : List ℕ) → circuit_refusal bytes ≡ None → Ordered (parts_of bytes)
unfolding circuit_refusal
ordered_check bytes e =
    let a = or_else_none (size_refusal bytes) _ e in
    let b = or_else_none (gates_refusal (parts_of bytes) (parts_of bytes).sizes.gates) _ a.1 in
    ordered_gates (parts_of bytes) b.0

module _ (c : Parts) where
  -- wires are made in order
  pub made_zero : made_before c 0 ≡ c.sizes.inputs
  made_zero = omega arith

  pub made_next : (g : ℕ) → made_before c (suc g) ≡ made_before c g + makes (form_of c g)
  made_next g = omega arith

  pub made_up : (g n : ℕ) → g ≤ n → made_before c g ≤ made_before c n
  made_up g n l = rises (made_before c) (made_rises c) g n l

  pub inputs_within : (n : ℕ) → c.sizes.inputs ≤ made_before c n
  inputs_within n = omega arith

  pub fresh_within : (g n j : ℕ) → g < n → j < makes (form_of c g) → made_before c g + j < made_before c n
  fresh_within g n j l h = let up = made_up (suc g) n l in let next = made_next g in omega arith

  pub operand_within : (g n i : ℕ) → Ordered c → g < c.sizes.gates → g ≤ n → i < reads (form_of c g) → operand_of c g i < made_before c n
  operand_within g n i o l h k = let up = made_up g n h in let before = o.order g i l k in omega arith

  -- a wire is an input or a gate's
  pub wire_is : (n w : ℕ) → w < made_before c n → (w < c.sizes.inputs) ⊎ MadeBelow c n w
  wire_is zero w l = inl (omega arith)
  wire_is (suc n) w l =
      elim (cases_lt w (made_before c n)) [
        | inl h ↦ elim (wire_is n w h) [
          | inl i ↦ inl i
          | inr m ↦ inr (record { gate = m.gate; place = m.place; below = omega arith; made = m.made; at = m.at })
        ]
        | inr h ↦ (
            let next = made_next n in
            inr (record { gate = n; place = w - made_before c n; below = omega arith; made = omega arith; at = omega arith }))
      ]

  -- what holds of the inputs, and of a gate's new wires if of all wires before them, holds of every wire
  pub by_gates : (P : ℕ → Type 0) (n : ℕ) → ((i : ℕ) → i < c.sizes.inputs → P i)
      → ((g : ℕ) → g < n → ((w : ℕ) → w < made_before c g → P w) → (j : ℕ) → j < makes (form_of c g) → P (made_before c g + j))
      → (w : ℕ) → w < made_before c n → P w
  by_gates P zero inputs gates w l = inputs w (omega arith)
  by_gates P (suc n) inputs gates w l =
      let earlier : (v : ℕ) → v < made_before c n → P v = by_gates P n inputs (λ g h. gates g (omega arith)) in
      elim (cases_lt w (made_before c n)) [
        | inl h ↦ earlier w h
        | inr h ↦ (
            let next = made_next n in
            let at : made_before c n + (w - made_before c n) ≡ w = omega arith in
            subst P at (gates n (omega arith) earlier (w - made_before c n) (omega arith)))
      ]
