-- What the proofs of the laws take from a circuit that passes, and where its wires come from. Assumes nothing.
use Rattle.std.specs.Prelude.{◌≡◌, ℕ, ◌+◌, ◌<◌, true}
use Rattle.circuit.specs.Forms.{known, reads, makes}
use Rattle.circuit.specs.Parts.{Parts}
use Rattle.circuit.specs.Gates.{form_of, operand_of, made_before}

-- each gate is of a known form, and each wire that it reads is made before it
pub record Ordered (c : Parts) : Type 0 where
  pub forms : (g : ℕ) → g < c.sizes.gates → known (form_of c g) ≡ true
  pub order : (g i : ℕ) → g < c.sizes.gates → i < reads (form_of c g) → operand_of c g i < made_before c g

-- wire w is a new wire of a gate below n
pub record MadeBelow (c : Parts) (n w : ℕ) : Type 0 where
  pub gate : ℕ
  pub place : ℕ
  pub below : gate < n
  pub made : place < makes (form_of c gate)
  pub at : w ≡ made_before c gate + place
