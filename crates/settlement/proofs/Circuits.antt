-- What a circuit that passed tells, and its material. Assumes nothing.
use Rattle.std.proofs.Common.{◌≡◌, ℕ, zero, suc, ◌+◌, ◌*◌, ◌<◌, ◌≤◌, true, not, eqb, ltb, List, [], ◌∷◌, ◌++◌, length, take, drop, None, refl, ap, sym, ◌∙◌, inl, inr, arith}
use Rattle.std.proofs.lemmas.Bool.{cases_lt, cases_Bool}
use Rattle.std.proofs.lemmas.List.{length-append, length-drop, take_all, drop_at, take-append-le, drop-append-le}
use Rattle.labels.specs.Kind.{Kind}
use Rattle.hashes.specs.Draws.{offset}
use Rattle.circuit.specs.Header.{sizes_of, within, words_in}
use Rattle.circuit.specs.Parts.{Parts, parts_of}
use Rattle.circuit.specs.Gates.{form_of, output_of, wires_in}
use Rattle.circuit.specs.Material.{gate_bytes}
use Rattle.circuit.specs.Check.{size_refusal, gates_refusal, circuit_refusal}
use Rattle.circuit.specs.declared.refusal.Refusal.TheVariants.{Short, Size, Length}
use Rattle.circuit.proofs.Bounds.{each_below}
use Rattle.circuit.proofs.Checks.{or_else_none, only_none}
use Rattle.circuit.proofs.Circuits.{within_inputs}
use Rattle.gates.specs.Bytes.{bytes_at}
use Rattle.steps.specs.Whole.{zero_label, material_at, material_before}
use Rattle.laws.proofs.Lengths.{material_long}
use Rattle.settlement.proofs.Facts.{passed}

-- a part of the front of two lists, a whole list, and an empty one
front : (xs ys : List ℕ) (at size : ℕ) → at + size ≤ length xs → bytes_at at size (xs ++ ys) ≡ bytes_at at size xs
front xs ys at size l =
    let d = length-drop at xs in
    ap (take size) (drop-append-le at xs ys (omega arith)) ∙ take-append-le size (drop at xs) ys (omega arith)

whole : (xs : List ℕ) (n : ℕ) → length xs ≡ n → take n xs ≡ xs
whole xs n e = take_all n xs (omega arith)

empty : (xs : List ℕ) → length xs ≡ 0 → xs ≡ []
empty [] e = refl
empty (x ∷ xs) e = absurd (omega arith)

module _ (bytes : List ℕ) (passes : circuit_refusal bytes ≡ None) where
  pub outputs_made : (o : ℕ) → o < (parts_of bytes).sizes.outputs → output_of (parts_of bytes) o < wires_in (parts_of bytes)
  unfolding circuit_refusal
  outputs_made =
      let a = or_else_none (size_refusal bytes) _ passes in
      let b = or_else_none (gates_refusal (parts_of bytes) (sizes_of bytes).gates) _ a.1 in
      each_below (output_of (parts_of bytes)) (parts_of bytes).sizes.outputs (wires_in (parts_of bytes)) (only_none _ _ b.1)

  pub inputs_few : (parts_of bytes).sizes.inputs ≤ 256
  unfolding circuit_refusal
  inputs_few =
      let a = or_else_none (size_refusal bytes) _ passes in
      let p = passed (ltb (length bytes) 10) Short ((not (within (sizes_of bytes)), Size) ∷ (not (eqb (length bytes) (2 * words_in (sizes_of bytes))), Length) ∷ []) a.0 in
      let q = passed (not (within (sizes_of bytes))) Size ((not (eqb (length bytes) (2 * words_in (sizes_of bytes))), Length) ∷ []) p.1 in
      let w : within (sizes_of bytes) ≡ true = elim (cases_Bool (within (sizes_of bytes))) [ inl e ↦ e | inr e ↦ (let z = q.0 in cc) ] in
      within_inputs (sizes_of bytes) w

module _ {L : Type 0} (K : Kind L) (F : L → ℕ → L) (seed : L) (c : Parts) where
  abbrev mat : ℕ → List ℕ
  mat g = material_before K F seed c g

  pub material_next : (g : ℕ) → material_before K F seed c (suc g) ≡ material_before K F seed c g ++ material_at K F seed c g
  unfolding material_before
  material_next g = refl

  pub material_none : material_before K F seed c 0 ≡ []
  unfolding material_before
  material_none = refl

  at_long : (g : ℕ) → length (material_at K F seed c g) ≡ gate_bytes (8 * K.width) (form_of c g)
  at_long g = material_long K F seed (offset F seed K) c g (zero_label K F seed c)

  pub next_long : (g : ℕ) → length (material_before K F seed c (suc g)) ≡ length (material_before K F seed c g) + gate_bytes (8 * K.width) (form_of c g)
  next_long g =
      let e = at_long g in
      ap length (material_next g) ∙ length-append (mat g) (material_at K F seed c g) ∙ ap (λ (k : ℕ). length (mat g) + k) e

  -- the material of the gates below n is longer, the more gates
  pub longer : (g n : ℕ) → g ≤ n → length (material_before K F seed c g) ≤ length (material_before K F seed c n)
  longer g zero l = let e : g ≡ 0 = omega arith in let q : length (mat g) ≡ length (mat 0) = ap (λ (k : ℕ). length (mat k)) e in omega arith
  longer g (suc n) l =
      elim (cases_lt n g) [
        | inl h ↦ (let e : g ≡ suc n = omega arith in let q : length (mat g) ≡ length (mat (suc n)) = ap (λ (k : ℕ). length (mat k)) e in omega arith)
        | inr h ↦ (let i = longer g n h in let e = next_long n in omega arith)
      ]

  -- a gate's own part, in the material of more gates
  part_below : (g n : ℕ) → g < n → bytes_at (length (mat g)) (gate_bytes (8 * K.width) (form_of c g)) (mat n) ≡ material_at K F seed c g
  part_below g zero l = absurd (omega arith)
  part_below g (suc n) l =
      let e = next_long g in
      elim (cases_lt g n) [
        | inl h ↦ (
            let i = part_below g n h in
            let long = longer (suc g) n h in
            let d : length (mat g) ≤ length (mat n) = omega arith in
            ap (λ (xs : List ℕ). bytes_at (length (mat g)) (gate_bytes (8 * K.width) (form_of c g)) xs) (material_next n) ∙ front (mat n) (material_at K F seed c n) (length (mat g)) (gate_bytes (8 * K.width) (form_of c g)) (omega arith) ∙ i)
        | inr h ↦ (
            let q : n ≡ g = omega arith in
            let m : mat (suc n) ≡ mat g ++ material_at K F seed c g = ap (λ (k : ℕ). mat (suc k)) q ∙ material_next g in
            ap (λ (xs : List ℕ). bytes_at (length (mat g)) (gate_bytes (8 * K.width) (form_of c g)) xs) m
            ∙ ap (take (gate_bytes (8 * K.width) (form_of c g))) (drop_at (mat g) (material_at K F seed c g) (length (mat g)) refl)
            ∙ whole (material_at K F seed c g) (gate_bytes (8 * K.width) (form_of c g)) (at_long g))
      ]

  -- the part that the evaluator reads, wherever there are enough bytes: also where it is ahead by gates without any
  pub part_is : (g n : ℕ) → length (material_before K F seed c g) + gate_bytes (8 * K.width) (form_of c g) ≤ length (material_before K F seed c n)
      → bytes_at (length (material_before K F seed c g)) (gate_bytes (8 * K.width) (form_of c g)) (material_before K F seed c n) ≡ material_at K F seed c g
  part_is g n l =
      elim (cases_lt g n) [
        | inl h ↦ part_below g n h
        | inr h ↦ (
            let b = longer n g h in
            let z : gate_bytes (8 * K.width) (form_of c g) ≡ 0 = omega arith in
            let e = at_long g in
            ap (λ (k : ℕ). bytes_at (length (mat g)) k (mat n)) z ∙ sym (empty (material_at K F seed c g) (omega arith)))
      ]
