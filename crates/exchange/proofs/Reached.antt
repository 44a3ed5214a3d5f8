-- How far a side of a circuit has come. Assumes nothing.
use Rattle.std.proofs.Common.{◌≡◌, ℕ, suc, ◌+◌, ◌*◌, Bool, true, false, eqb, List, refl, ap, ◌∙◌, ap₂, add-one, arith}
use Rattle.std.proofs.lemmas.Bool.{eq-eqb}
use Rattle.labels.specs.Kind.{Kind}
use Rattle.circuit.specs.Parts.{Parts}
use Rattle.circuit.specs.Forms.{makes}
use Rattle.circuit.specs.Gates.{form_of, made_before, wires_in}
use Rattle.circuit.specs.Material.{gate_bytes}
use Rattle.circuit.specs.Check.{bytes_in}
use Rattle.parties.specs.declared.side.Side.{Side}
use Rattle.parties.specs.Side.{started, marked, stepped}
use Rattle.parties.specs.Turns.{is_its}
use Rattle.exchange.proofs.Marks.{marks_below, marks_none, marks_next}

-- a side once the first n inputs are encoded or delivered and the gates below g are made
abbrev pub reached : {L : Type 0} → Kind L → Parts → ℕ → ℕ → Side
reached K c n g = record {
  ended = false;
  sizes = c.sizes;
  wires = wires_in c;
  next = g;
  made = made_before c g;
  bytes = bytes_in K c g;
  marks = marks_below n;
}

same_self : (n : ℕ) → eqb n n ≡ true
same_self n = eq-eqb n n refl

module _ {L : Type 0} (K : Kind L) (c : Parts) where
  abbrev at : ℕ → ℕ → ℕ → List Bool → Side
  at next made bytes marks = record { ended = false; sizes = c.sizes; wires = wires_in c; next = next; made = made; bytes = bytes; marks = marks }

  pub starts : started c.sizes (wires_in c) ≡ reached K c 0 0
  starts =
      let made : c.sizes.inputs ≡ made_before c 0 = omega arith in
      ap₂ (λ (m : ℕ) (ms : List Bool). at 0 m 0 ms) made marks_none

  pub marks_on : (n g : ℕ) (s t : Side) → s ≡ reached K c n g → t ≡ marked s n → t ≡ reached K c (suc n) g
  marks_on n g s t e f =
      f ∙ ap (λ (z : Side). marked z n) e ∙ ap (λ (ms : List Bool). at g (made_before c g) (bytes_in K c g) ms) (marks_next n)

  pub steps_on : (n g : ℕ) (s t : Side) → s ≡ reached K c n g → t ≡ stepped s (makes (form_of c s.next)) (gate_bytes (8 * K.width) (form_of c s.next)) → t ≡ reached K c n (suc g)
  steps_on n g s t e f =
      let made : made_before c g + makes (form_of c g) ≡ made_before c (suc g) = omega arith in
      f ∙ ap (λ (z : Side). stepped z (makes (form_of c z.next)) (gate_bytes (8 * K.width) (form_of c z.next))) e
      ∙ ap₂ (λ (next m : ℕ). at next m (bytes_in K c (suc g)) (marks_below n)) (add-one g) made

  -- the circuit is the side's own
  pub its : (n g : ℕ) → is_its (reached K c n g) c ≡ true
  unfolding is_its
  its n g =
      let a = same_self c.sizes.inputs in
      let b = same_self c.sizes.gates in
      let d = same_self c.sizes.outputs in
      let e = same_self c.sizes.operands in
      let f = same_self c.sizes.rows in
      let h = same_self (wires_in c) in
      let k = same_self (made_before c g) in
      rw (a, b, d, e, f, h, k)
