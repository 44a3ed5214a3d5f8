-- A gate looks only at the wires that it reads. Assumes nothing.
use Rattle.std.proofs.Common.{◌≡◌, ℕ, ◌<◌, ◌≤◌, List, [], ◌∷◌, ◌++◌, refl, ap, ap₂, arith}
use Rattle.labels.specs.Kind.{Kind}
use Rattle.gates.specs.Bytes.{bytes_at}
use Rattle.gates.specs.Half.{garbled, joined}
use Rattle.circuit.specs.Forms.{fan_in, fan_out, reads}
use Rattle.circuit.specs.Parts.{Parts}
use Rattle.circuit.specs.Gates.{form_of, operand_of, made_before}
use Rattle.tables.specs.Gate.{material_for, zeros_for, evaluated}
use Rattle.labels.specs.Lists.{places}
use Rattle.tables.proofs.Packing.{listed_ext}
use Rattle.steps.specs.Gate.{rows_in, operand_labels, new_zeros, gate_material, new_labels}
use Rattle.laws.proofs.Ordered.{Ordered}
use Rattle.laws.proofs.Forms.{same_arms, two_read}

module _ {L : Type 0} (K : Kind L) (F : L → ℕ → L) where
  module _ (c : Parts) (g : ℕ) (v u : ℕ → L) (same : (i : ℕ) → i < reads (form_of c g) → v (operand_of c g i) ≡ u (operand_of c g i)) where
    operand : (i : ℕ) → i < 2 → form_of c g ≤ 1 → v (operand_of c g i) ≡ u (operand_of c g i)
    operand i l h = let e = two_read (form_of c g) h in same i (omega arith)

    first : form_of c g ≤ 1 → v (operand_of c g 0) ≡ u (operand_of c g 0)
    first h = operand 0 (omega arith) h

    second : form_of c g ≤ 1 → v (operand_of c g 1) ≡ u (operand_of c g 1)
    second h = operand 1 (omega arith) h

    both : form_of c g ≤ 1 → K.xor (v (operand_of c g 0)) (v (operand_of c g 1)) ∷ [] ≡ K.xor (u (operand_of c g 0)) (u (operand_of c g 1)) ∷ []
    both h = ap₂ (λ (a b : L). K.xor a b ∷ []) (first h) (second h)

    labels : operand_labels c g K v ≡ operand_labels c g K u
    labels = listed_ext (reads (form_of c g)) (λ i. v (operand_of c g i)) (λ i. u (operand_of c g i)) same

    pub zeros_read : (seed Δ : L) → new_zeros c g K v F seed Δ ≡ new_zeros c g K u F seed Δ
    unfolding new_zeros
    zeros_read seed Δ =
        same_arms (form_of c g) _ _ _ _ _ _ both
        (λ h. ap₂ (λ (a b : L). (garbled K F g Δ a b).2 ∷ []) (first h) (second h))
        (λ h. ap (λ (ls : List L). zeros_for K F g seed Δ ls (rows_in c g) (fan_out (form_of c g))) labels)

    pub material_read : (seed Δ : L) → gate_material c g K v F seed Δ ≡ gate_material c g K u F seed Δ
    unfolding gate_material
    material_read seed Δ =
        same_arms (form_of c g) _ _ _ _ _ _ (λ h. refl)
        (λ h. ap₂ (λ (a b : L). K.bytes (garbled K F g Δ a b).0 ++ K.bytes (garbled K F g Δ a b).1) (first h) (second h))
        (λ h. ap (λ (ls : List L). material_for K F g seed Δ ls (rows_in c g) (fan_out (form_of c g))) labels)

    pub labels_read : (bytes : List ℕ) → new_labels c g K v F bytes ≡ new_labels c g K u F bytes
    unfolding new_labels
    labels_read bytes =
        same_arms (form_of c g) _ _ _ _ _ _ both
        (λ h. ap₂ (λ (a b : L). joined K F g (K.from (bytes_at 0 K.width bytes)) (K.from (bytes_at K.width K.width bytes)) a b ∷ []) (first h) (second h))
        (λ h. ap (λ (ls : List L). evaluated K F g (fan_in (form_of c g)) (fan_out (form_of c g)) bytes (places K ls)) labels)

  -- and so only at the wires before it
  pub zeros_same : (seed Δ : L) (c : Parts) (g : ℕ) → Ordered c → g < c.sizes.gates → (v u : ℕ → L) → ((w : ℕ) → w < made_before c g → v w ≡ u w)
      → new_zeros c g K v F seed Δ ≡ new_zeros c g K u F seed Δ
  zeros_same seed Δ c g o there v u same = zeros_read c g v u (λ i l. same (operand_of c g i) (o.order g i there l)) seed Δ

  pub material_same : (seed Δ : L) (c : Parts) (g : ℕ) → Ordered c → g < c.sizes.gates → (v u : ℕ → L) → ((w : ℕ) → w < made_before c g → v w ≡ u w)
      → gate_material c g K v F seed Δ ≡ gate_material c g K u F seed Δ
  material_same seed Δ c g o there v u same = material_read c g v u (λ i l. same (operand_of c g i) (o.order g i there l)) seed Δ

  pub labels_same : (bytes : List ℕ) (c : Parts) (g : ℕ) → Ordered c → g < c.sizes.gates → (v u : ℕ → L) → ((w : ℕ) → w < made_before c g → v w ≡ u w)
      → new_labels c g K v F bytes ≡ new_labels c g K u F bytes
  labels_same bytes c g o there v u same = labels_read c g v u (λ i l. same (operand_of c g i) (o.order g i there l)) bytes
