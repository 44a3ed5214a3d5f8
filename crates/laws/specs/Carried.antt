-- What each wire of a circuit carries: the laws of the definitions of its zero label, its label and its bit. Assumes nothing.
use Rattle.std.specs.Prelude.{◌≡◌, ℕ, ◌+◌, ◌<◌, Bool, List, None}
use Rattle.labels.specs.Kind.{Kind, times}
use Rattle.hashes.specs.Draws.{offset, input_zero}
use Rattle.circuit.specs.Check.{circuit_refusal}
use Rattle.circuit.specs.Forms.{makes}
use Rattle.circuit.specs.Parts.{Parts, parts_of}
use Rattle.circuit.specs.Gates.{form_of, operand_of, made_before}
use Rattle.labels.specs.Lists.{places}
use Rattle.plain.specs.Plain.{gate_bit, plain_bit}
use Rattle.steps.specs.Gate.{new_zeros, new_labels}
use Rattle.steps.specs.Whole.{zero_label, material_at, label}

-- an input has what it is given, and a new wire what its gate makes of the wires that all gates left
pub record Carries {T : Type 0} (c : Parts) (given : ℕ → T) (rule : ℕ → (ℕ → T) → ℕ → T) (on : ℕ → T) : Type 0 where
  pub inputs : (i : ℕ) → i < c.sizes.inputs → on i ≡ given i
  pub gates : (g j : ℕ) → g < c.sizes.gates → j < makes (form_of c g) → on (made_before c g + j) ≡ rule g on j

module _ {L : Type 0} (K : Kind L) (F : L → ℕ → L) (seed : L) (c : Parts) where
  abbrev pub ZerosCarried : Type 0
  ZerosCarried = Carries c (input_zero F seed) (λ g v j. places K (new_zeros c g K v F seed (offset F seed K)) j) (zero_label K F seed c)

  abbrev pub LabelsCarried : (ℕ → Bool) → Type 0
  LabelsCarried x =
      Carries c (λ i. K.xor (input_zero F seed i) (times K (x i) (offset F seed K)))
      (λ g v j. places K (new_labels c g K v F (material_at K F seed c g)) j) (label K F seed c x)

abbrev pub BitsCarried : Parts → (ℕ → Bool) → Type 0
BitsCarried c x = Carries c x (λ g v j. gate_bit c g (λ i. v (operand_of c g i)) j) (plain_bit c x)

-- of every circuit that passes
pub record AllCarried {L : Type 0} (K : Kind L) (F : L → ℕ → L) (seed : L) (x : ℕ → Bool) (c : Parts) : Type 0 where
  pub zeros : ZerosCarried K F seed c
  pub labels : LabelsCarried K F seed c x
  pub bits : BitsCarried c x

abbrev pub WiresStand : {L : Type 0} → Kind L → Type 0
WiresStand {L} K = (bytes : List ℕ) → circuit_refusal bytes ≡ None → (F : L → ℕ → L) (seed : L) (x : ℕ → Bool) → AllCarried K F seed x (parts_of bytes)
