-- The bit on each wire of a circuit. Assumes nothing.
use Rattle.std.proofs.Common.{◌≡◌, ℕ, ◌+◌, ◌<◌, Bool, sym, ◌∙◌}
use Rattle.circuit.specs.Forms.{makes}
use Rattle.circuit.specs.Parts.{Parts}
use Rattle.circuit.specs.Gates.{form_of, operand_of, made_before, wires_in}
use Rattle.plain.specs.Plain.{gate_bit, plain_rule, plain_bit}
use Rattle.plain.proofs.Plains.{gate_same}
use Rattle.laws.proofs.Ordered.{Ordered}
use Rattle.laws.proofs.Carried.{input_carried, fresh_carried}
use Rattle.laws.proofs.Order.{by_gates}

module _ (c : Parts) where
  -- a gate's bit hangs only on the bits of the wires before it
  pub bit_same : (g j : ℕ) → Ordered c → g < c.sizes.gates → (x y : ℕ → Bool) → ((w : ℕ) → w < made_before c g → x w ≡ y w)
      → gate_bit c g (λ i. x (operand_of c g i)) j ≡ gate_bit c g (λ i. y (operand_of c g i)) j
  bit_same g j o there x y same =
      gate_same c g (o.forms g there) (λ i. x (operand_of c g i)) (λ i. y (operand_of c g i)) j (λ i l. same (operand_of c g i) (o.order g i there l))

  module _ (x : ℕ → Bool) where
    pub plain_input : (i : ℕ) → i < c.sizes.inputs → plain_bit c x i ≡ x i
    plain_input i l = input_carried c (plain_rule c) x i l

    pub plain_fresh : (g j : ℕ) → Ordered c → g < c.sizes.gates → j < makes (form_of c g) → plain_bit c x (made_before c g + j) ≡ gate_bit c g (λ i. plain_bit c x (operand_of c g i)) j
    plain_fresh g j o there l = fresh_carried c (plain_rule c) x g there (λ v u same k. bit_same g k o there v u same) j l

  -- the same input bits give the same bits
  pub plain_same : (x y : ℕ → Bool) → Ordered c → ((i : ℕ) → i < c.sizes.inputs → x i ≡ y i) → (w : ℕ) → w < wires_in c → plain_bit c x w ≡ plain_bit c y w
  plain_same x y o same w l =
      by_gates c (λ w. plain_bit c x w ≡ plain_bit c y w) c.sizes.gates
      (λ i h. plain_input x i h ∙ same i h ∙ sym (plain_input y i h))
      (λ g there earlier j h. plain_fresh x g j o there h ∙ bit_same g j o there (plain_bit c x) (plain_bit c y) earlier ∙ sym (plain_fresh y g j o there h))
      w l
