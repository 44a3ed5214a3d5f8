-- Labels stand for bits, through one gate and over a whole circuit. Assumes nothing.
use Rattle.std.proofs.Common.{◌≡◌, ℕ, ◌^◌, ◌<◌, ◌≤◌, Bool, true, ◌&&◌, eqb, List, ◌++◌, length, take, refl, sym, ap, ap₂, ◌∙◌, inl, inr, arith}
use Rattle.std.proofs.lemmas.Bool.{cases_Bool}
use Rattle.std.proofs.lemmas.Bool.Decides.{nat_tests}
use Rattle.std.proofs.lemmas.List.{take_at, drop_at, take_all}
use Rattle.labels.specs.Kind.{Kind, times, differs}
use Rattle.labels.specs.Numbers.{bit, number}
use Rattle.hashes.specs.Draws.{offset}
use Rattle.gates.specs.Bytes.{bytes_at}
use Rattle.gates.specs.Half.{garbled, joined}
use Rattle.gates.proofs.Halves as halves
use Rattle.circuit.specs.Forms.{known, fan_in, fan_out, reads, makes}
use Rattle.circuit.specs.Parts.{Parts}
use Rattle.circuit.specs.Gates.{form_of, operand_of, rows_from, row_of, made_before, wires_in}
use Rattle.circuit.proofs.Stretches.{word_of_part}
use Rattle.tables.specs.Gate.{drawn, material, material_for, zeros_for, evaluated, labels_of_row}
use Rattle.labels.specs.Words.{word_at}
use Rattle.labels.specs.Lists.{places}
use Rattle.tables.specs.Table.{made}
use Rattle.tables.proofs.Gating.{gate_meets}
use Rattle.tables.proofs.Packing.{length_listed, get_or_listed}
use Rattle.plain.specs.Plain.{gate_bit, plain_bit}
use Rattle.labels.proofs.Numbers.{number_below}
use Rattle.steps.specs.Gate.{rows_in, operand_labels, new_zeros, gate_material, new_labels}
use Rattle.steps.specs.Whole.{zero_label, label}
use Rattle.laws.proofs.Ordered.{Ordered}
use Rattle.laws.specs.Sound.{LabelOf}
use Rattle.laws.proofs.Forms.{two_read, one_made, table_reads, table_makes, table_some}
use Rattle.laws.proofs.Order.{by_gates}
use Rattle.laws.proofs.Zeros.{zero_fresh, label_input, label_fresh}
use Rattle.laws.proofs.Bits.{plain_input, plain_fresh}

-- two labels written one behind the other read back
module _ {L : Type 0} (K : Kind L) (x y : L) where
  front_back : K.from (bytes_at 0 K.width (K.bytes x ++ K.bytes y)) ≡ x
  front_back = ap K.from (take_at (K.bytes x) (K.bytes y) K.width (K.bytes_long x)) ∙ K.back x

  end_back : K.from (bytes_at K.width K.width (K.bytes x ++ K.bytes y)) ≡ y
  end_back =
      let l = K.bytes_long y in
      ap (λ (bs : List ℕ). K.from (take K.width bs)) (drop_at (K.bytes x) (K.bytes y) K.width (K.bytes_long x))
      ∙ ap K.from (take_all K.width (K.bytes y) (omega arith)) ∙ K.back y

-- a row of the circuit is the word that its bytes write
row_is : (c : Parts) (g i : ℕ) → i < 2 ^ fan_in (form_of c g) → word_at (rows_in c g) i ≡ row_of c g i
row_is c g i l = word_of_part (rows_from c g) (2 ^ fan_in (form_of c g)) i c.rows l

module _ {L : Type 0} (K : Kind L) (F : L → ℕ → L) (seed Δ : L) (c : Parts) (g : ℕ) (colour : K.colour Δ ≡ true) (z u : ℕ → L) (x : ℕ → Bool)
    (held : (i : ℕ) → i < reads (form_of c g) → u (operand_of c g i) ≡ K.xor (z (operand_of c g i)) (times K (x (operand_of c g i)) Δ)) where
  abbrev bits : ℕ → Bool
  bits i = x (operand_of c g i)

  first : form_of c g ≤ 1 → u (operand_of c g 0) ≡ K.xor (z (operand_of c g 0)) (times K (bits 0) Δ)
  first h = let e = two_read (form_of c g) h in held 0 (omega arith)

  second : form_of c g ≤ 1 → u (operand_of c g 1) ≡ K.xor (z (operand_of c g 1)) (times K (bits 1) Δ)
  second h = let e = two_read (form_of c g) h in held 1 (omega arith)

  xor_sound : form_of c g ≤ 1 → K.xor (u (operand_of c g 0)) (u (operand_of c g 1)) ≡ K.xor (K.xor (z (operand_of c g 0)) (z (operand_of c g 1))) (times K (differs (bits 0) (bits 1)) Δ)
  xor_sound h = ap₂ K.xor (first h) (second h) ∙ halves.xor_sound K Δ (z (operand_of c g 0)) (z (operand_of c g 1)) (bits 0) (bits 1)

  abbrev garbled_and : L × L × L
  garbled_and = garbled K F g Δ (z (operand_of c g 0)) (z (operand_of c g 1))

  abbrev and_bytes : List ℕ
  and_bytes = K.bytes garbled_and.0 ++ K.bytes garbled_and.1

  and_sound : form_of c g ≤ 1
      → joined K F g (K.from (bytes_at 0 K.width and_bytes)) (K.from (bytes_at K.width K.width and_bytes)) (u (operand_of c g 0)) (u (operand_of c g 1))
      ≡ K.xor garbled_and.2 (times K (bits 0 && bits 1) Δ)
  and_sound h =
      halves.meets K F g _ _ _ _ _ refl Δ (z (operand_of c g 0)) (z (operand_of c g 1)) (bits 0) (bits 1) colour
      (front_back K garbled_and.0 garbled_and.1) (end_back K garbled_and.0 garbled_and.1) (first h) (second h)

  -- a table
  module _ (high : 1 < form_of c g) (some : 1 ≤ fan_in (form_of c g)) where
    abbrev n : ℕ
    n = fan_in (form_of c g)

    abbrev m : ℕ
    m = fan_out (form_of c g)

    abbrev zeros : List L
    zeros = operand_labels c g K z

    abbrev s : ℕ
    s = drawn K F g (length zeros) m seed

    as_many : length zeros ≡ n
    as_many = length_listed (λ i. z (operand_of c g i)) (reads (form_of c g)) ∙ table_reads (form_of c g) high

    on_operand : (v : ℕ → L) (k : ℕ) → k < n → places K (operand_labels c g K v) k ≡ v (operand_of c g k)
    on_operand v k l = let e = table_reads (form_of c g) high in get_or_listed (λ i. v (operand_of c g i)) (reads (form_of c g)) k K.zero (omega arith)

    operand_held : (k : ℕ) → k < n → places K (operand_labels c g K u) k ≡ K.xor (places K zeros k) (times K (bits k) Δ)
    operand_held k l =
        let e = table_reads (form_of c g) high in
        on_operand u k l ∙ held k (omega arith) ∙ ap (λ (a : L). K.xor a (times K (bits k) Δ)) (sym (on_operand z k l))

    table_list : evaluated K F g n m (material_for K F g seed Δ zeros (rows_in c g) m) (places K (operand_labels c g K u)) ≡ labels_of_row K F g n m s Δ (places K zeros) (word_at (rows_in c g)) bits
    table_list =
        gate_meets K F g n m (material_for K F g seed Δ zeros (rows_in c g) m) (places K (operand_labels c g K u)) _ some refl
        s Δ (places K zeros) (word_at (rows_in c g)) bits colour operand_held
        (ap (λ (k : ℕ). material K F g k m s Δ (places K zeros) (word_at (rows_in c g))) as_many)

    table_sound : (j : ℕ) → j < m
        → places K (evaluated K F g n m (material_for K F g seed Δ zeros (rows_in c g) m) (places K (operand_labels c g K u))) j
        ≡ K.xor (places K (zeros_for K F g seed Δ zeros (rows_in c g) m) j) (times K (bit j (row_of c g (number n bits))) Δ)
    table_sound j l =
        let A : ℕ → L = places K zeros in
        let row : ℕ → ℕ = word_at (rows_in c g) in
        let there : places K (zeros_for K F g seed Δ zeros (rows_in c g) m) j ≡ made K F g m (length zeros) s Δ A row j = get_or_listed (made K F g m (length zeros) s Δ A row) m j K.zero l in
        ap (λ (ls : List L). places K ls j) table_list
        ∙ get_or_listed (λ j. K.xor (made K F g m n s Δ A row j) (times K (bit j (row (number n bits))) Δ)) m j K.zero l
        ∙ ap₂ (λ (a : L) (r : ℕ). K.xor a (times K (bit j r) Δ))
        (ap (λ (k : ℕ). made K F g m k s Δ A row j) (sym as_many) ∙ sym there)
        (row_is c g (number n bits) (number_below n bits))

  read_sound : known (form_of c g) ≡ true → (j : ℕ) → j < makes (form_of c g)
      → places K (new_labels c g K u F (gate_material c g K z F seed Δ)) j ≡ K.xor (places K (new_zeros c g K z F seed Δ) j) (times K (gate_bit c g bits j) Δ)
  unfolding new_labels gate_material new_zeros gate_bit
  read_sound form j l =
      elim (cases_Bool (eqb (form_of c g) 0)) [
        | inl e ↦ (
            let h : form_of c g ≤ 1 = grind (arith, nat_tests) in
            let one = one_made (form_of c g) h in
            let at : j ≡ 0 = omega arith in
            rw (e, at) (xor_sound h))
        | inr e ↦ elim (cases_Bool (eqb (form_of c g) 1)) [
          | inl o ↦ (
              let h : form_of c g ≤ 1 = grind (arith, nat_tests) in
              let one = one_made (form_of c g) h in
              let at : j ≡ 0 = omega arith in
              rw (e, o, at) (and_sound h))
          | inr o ↦ (
              let h : 1 < form_of c g = grind (arith, nat_tests) in
              let more = table_makes (form_of c g) h in
              rw (e, o) (table_sound h (table_some (form_of c g) h form) j (omega arith)))
        ]
      ]

module _ {L : Type 0} (K : Kind L) (F : L → ℕ → L) where
  pub gate_sound : (seed Δ : L) (c : Parts) (g : ℕ) → Ordered c → g < c.sizes.gates → K.colour Δ ≡ true
      → (z u : ℕ → L) (x : ℕ → Bool) → ((w : ℕ) → w < made_before c g → LabelOf K Δ (z w) (x w) (u w))
      → (j : ℕ) → j < makes (form_of c g)
      → places K (new_labels c g K u F (gate_material c g K z F seed Δ)) j ≡ K.xor (places K (new_zeros c g K z F seed Δ) j) (times K (gate_bit c g (λ i. x (operand_of c g i)) j) Δ)
  gate_sound seed Δ c g o there colour z u x held j l =
      read_sound K F seed Δ c g colour z u x (λ i h. held (operand_of c g i) (o.order g i there h)) (o.forms g there) j l

  pub circuit_sound : (seed : L) (c : Parts) → Ordered c → K.colour (offset F seed K) ≡ true → (x : ℕ → Bool) (w : ℕ) → w < wires_in c
      → label K F seed c x w ≡ K.xor (zero_label K F seed c w) (times K (plain_bit c x w) (offset F seed K))
  circuit_sound seed c o colour x w l =
      by_gates c (λ w. label K F seed c x w ≡ K.xor (zero_label K F seed c w) (times K (plain_bit c x w) (offset F seed K))) c.sizes.gates
      (λ i h. label_input K F seed c x i h ∙ ap (λ (b : Bool). K.xor (zero_label K F seed c i) (times K b (offset F seed K))) (sym (plain_input c x i h)))
      (λ g there earlier j h.
      label_fresh K F seed c x g j o there h
      ∙ gate_sound seed (offset F seed K) c g o there colour (zero_label K F seed c) (label K F seed c x) (plain_bit c x) earlier j h
      ∙ ap₂ (λ (a : L) (b : Bool). K.xor a (times K b (offset F seed K))) (sym (zero_fresh K F seed c g j o there h)) (sym (plain_fresh c x g j o there h)))
      w l
