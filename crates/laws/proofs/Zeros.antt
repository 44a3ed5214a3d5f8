-- The zero label of each wire of a circuit, and its label for given input bits. Assumes nothing.
use Rattle.std.proofs.Common.{◌≡◌, ℕ, ◌+◌, ◌<◌, Bool, List, ap}
use Rattle.labels.specs.Kind.{Kind, times}
use Rattle.hashes.specs.Draws.{offset, input_zero}
use Rattle.circuit.specs.Forms.{makes}
use Rattle.circuit.specs.Parts.{Parts}
use Rattle.circuit.specs.Gates.{form_of, made_before}
use Rattle.labels.specs.Lists.{places}
use Rattle.steps.specs.Gate.{new_zeros, new_labels}
use Rattle.steps.specs.Whole.{zero_rule, zero_label, material_at, input_label, label_rule, label}
use Rattle.laws.proofs.Ordered.{Ordered}
use Rattle.laws.proofs.Carried.{input_carried, fresh_carried}
use Rattle.laws.proofs.Same.{zeros_same, labels_same}

module _ {L : Type 0} (K : Kind L) (F : L → ℕ → L) (seed : L) (c : Parts) where
  pub zero_input : (i : ℕ) → i < c.sizes.inputs → zero_label K F seed c i ≡ input_zero F seed i
  unfolding zero_label
  zero_input i l = input_carried c (zero_rule K F seed c) (input_zero F seed) i l

  pub zero_fresh : (g j : ℕ) → Ordered c → g < c.sizes.gates → j < makes (form_of c g)
      → zero_label K F seed c (made_before c g + j) ≡ places K (new_zeros c g K (zero_label K F seed c) F seed (offset F seed K)) j
  unfolding zero_label
  zero_fresh g j o there l =
      fresh_carried c (zero_rule K F seed c) (input_zero F seed) g there
      (λ v u same j. ap (λ (ls : List L). places K ls j) (zeros_same K F seed (offset F seed K) c g o there v u same)) j l

  module _ (x : ℕ → Bool) where
    pub label_input : (i : ℕ) → i < c.sizes.inputs → label K F seed c x i ≡ K.xor (zero_label K F seed c i) (times K (x i) (offset F seed K))
    unfolding label
    label_input i l = input_carried c (label_rule K F seed c x) (input_label K F seed c x) i l

    pub label_fresh : (g j : ℕ) → Ordered c → g < c.sizes.gates → j < makes (form_of c g)
        → label K F seed c x (made_before c g + j) ≡ places K (new_labels c g K (label K F seed c x) F (material_at K F seed c g)) j
    unfolding label
    label_fresh g j o there l =
        fresh_carried c (label_rule K F seed c x) (input_label K F seed c x) g there
        (λ v u same j. ap (λ (ls : List L). places K ls j) (labels_same K F (material_at K F seed c g) c g o there v u same)) j l
