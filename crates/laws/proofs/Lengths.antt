-- How many labels and bytes a gate makes. Assumes nothing.
use Rattle.std.proofs.Common.{◌≡◌, ℕ, zero, suc, ◌+◌, ◌-◌, ◌*◌, ◌/◌, ◌^◌, List, ◌++◌, length, refl, sym, ap, ap₂, ◌∙◌, add-mul, mul_assoc, arith}
use Rattle.std.proofs.lemmas.List.{length-append}
use Rattle.labels.specs.Kind.{Kind}
use Rattle.labels.specs.Words.{word_at}
use Rattle.material.specs.Size.{bytes_of, labels_of, in_bytes, table_bits}
use Rattle.material.proofs.Sizes.{whole_bytes}
use Rattle.circuit.specs.Forms.{fan_in, fan_out, reads, makes}
use Rattle.circuit.specs.Parts.{Parts}
use Rattle.circuit.specs.Gates.{form_of, operand_of}
use Rattle.circuit.specs.Material.{gate_bytes}
use Rattle.circuit.specs.Check.{bytes_in}
use Rattle.hashes.specs.Draws.{offset}
use Rattle.tables.specs.Gate.{material}
use Rattle.labels.specs.Lists.{each, places}
use Rattle.tables.specs.Material.{packed, written, one_hot_part, mask_part}
use Rattle.tables.specs.Table.{based, colours, hot, hot_row, mask_row, turned}
use Rattle.tables.proofs.Packing.{length_listed}
use Rattle.tables.proofs.Reading.{length_each}
use Rattle.steps.specs.Gate.{rows_in, operand_labels, new_zeros, gate_material, new_labels}
use Rattle.steps.specs.Whole.{zero_label, material_at, material_before}
use Rattle.laws.proofs.Forms.{at_each, at_both, one_made, table_makes, table_reads}

-- a table's material
module _ {L : Type 0} (K : Kind L) (n m : ℕ) (rows : ℕ → L) (masks : ℕ → ℕ → L) (f : ℕ → ℕ) where
  hots_long : length (one_hot_part K n rows) ≡ (n - 1) * K.width
  hots_long = length_each K.width (λ k. K.bytes (rows (suc k))) (λ k. K.bytes_long (rows (suc k))) (n - 1)

  level_long : (d : ℕ) → length (each m (λ j. K.bytes (masks d j))) ≡ m * K.width
  level_long d = length_each K.width (λ j. K.bytes (masks d j)) (λ j. K.bytes_long (masks d j)) m

  masks_long : length (mask_part K n m masks) ≡ n * (m * K.width)
  masks_long = length_each (m * K.width) (λ d. each m (λ j. K.bytes (masks d j))) level_long n

  pub written_long : length (written K n m rows masks f) ≡ bytes_of K.width n m
  written_long =
      let a = length-append (one_hot_part K n rows) (mask_part K n m masks ++ packed (2 ^ n) m f) in
      let b = length-append (mask_part K n m masks) (packed (2 ^ n) m f) in
      let h = hots_long in
      let k = masks_long in
      let p : length (packed (2 ^ n) m f) ≡ in_bytes (2 ^ n * m) = length_listed _ (in_bytes (2 ^ n * m)) in
      let s : labels_of n m * K.width ≡ (n - 1) * K.width + n * m * K.width = add-mul (n - 1) (n * m) K.width in
      let t : n * m * K.width ≡ n * (m * K.width) = mul_assoc n m K.width in
      omega arith

module _ {L : Type 0} (K : Kind L) (F : L → ℕ → L) where
  pub zeros_long : (seed Δ : L) (c : Parts) (g : ℕ) (v : ℕ → L) → length (new_zeros c g K v F seed Δ) ≡ makes (form_of c g)
  unfolding new_zeros
  zeros_long seed Δ c g v =
      at_each (λ (xs : List L). length xs ≡ makes (form_of c g)) (form_of c g) _ _ _
      (λ h. sym (one_made (form_of c g) (omega arith)))
      (λ h. sym (one_made (form_of c g) (omega arith)))
      (λ h. length_listed _ (fan_out (form_of c g)) ∙ sym (table_makes (form_of c g) h))

  pub labels_long : (bytes : List ℕ) (c : Parts) (g : ℕ) (v : ℕ → L) → length (new_labels c g K v F bytes) ≡ makes (form_of c g)
  unfolding new_labels
  labels_long bytes c g v =
      at_each (λ (xs : List L). length xs ≡ makes (form_of c g)) (form_of c g) _ _ _
      (λ h. sym (one_made (form_of c g) (omega arith)))
      (λ h. sym (one_made (form_of c g) (omega arith)))
      (λ h. length_listed _ (fan_out (form_of c g)) ∙ sym (table_makes (form_of c g) h))

  material_of_long : (g n m s : ℕ) (Δ : L) (A : ℕ → L) (row : ℕ → ℕ) → length (material K F g n m s Δ A row) ≡ bytes_of K.width n m
  material_of_long g n m s Δ A row =
      let B : ℕ → L = λ k. based K Δ (A k) in
      written_long K n m (hot_row K F g Δ B) (mask_row K F g m n Δ B (hot K F g Δ B n)) (turned K F g m n s Δ B row (colours K n A))

  two_long : (x y : L) → length (K.bytes x ++ K.bytes y) ≡ gate_bytes (8 * K.width) 1
  two_long x y =
      let a = length-append (K.bytes x) (K.bytes y) in
      let p = K.bytes_long x in
      let q = K.bytes_long y in
      omega arith

  pub material_long : (seed Δ : L) (c : Parts) (g : ℕ) (v : ℕ → L) → length (gate_material c g K v F seed Δ) ≡ gate_bytes (8 * K.width) (form_of c g)
  unfolding gate_material
  material_long seed Δ c g v =
      at_both (λ (xs : List ℕ) (bits : ℕ). length xs ≡ (bits + 7) / 8) (form_of c g) _ _ _ 0 (2 * (8 * K.width)) (table_bits (8 * K.width) (fan_in (form_of c g)) (fan_out (form_of c g)))
      (λ h. refl)
      (λ h. two_long _ _)
      (λ h.
      let n : length (operand_labels c g K v) ≡ fan_in (form_of c g) = length_listed (λ i. v (operand_of c g i)) (reads (form_of c g)) ∙ table_reads (form_of c g) h in
      material_of_long g (length (operand_labels c g K v)) (fan_out (form_of c g)) _ Δ (places K (operand_labels c g K v)) (word_at (rows_in c g)) ∙ whole_bytes K.width (length (operand_labels c g K v)) (fan_out (form_of c g))
      ∙ ap (λ (k : ℕ). in_bytes (table_bits (8 * K.width) k (fan_out (form_of c g)))) n)

  -- and the gates below g, one after another
  pub material_before_long : (seed : L) (c : Parts) (g : ℕ) → length (material_before K F seed c g) ≡ bytes_in K c g
  unfolding material_before
  material_before_long seed c zero = refl
  material_before_long seed c (suc g) =
      length-append (material_before K F seed c g) (material_at K F seed c g)
      ∙ ap₂ ◌+◌ (material_before_long seed c g) (material_long seed (offset F seed K) c g (zero_label K F seed c))
