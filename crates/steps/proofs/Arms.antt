-- What the definitions of a gate give at each form, in the words of the code's gate. Assumes nothing.
use Rattle.std.proofs.Common.{◌≡◌, ℕ, suc, ◌+◌, ◌*◌, ◌/◌, ◌^◌, ◌<◌, ◌≤◌, true, false, eqb, leb, List, [], ◌++◌, length, get_or, sym, refl, ap, ◌∙◌, ap₂, arith, Bor}
use Rattle.std.proofs.lemmas.Bool.{eq-eqb, ne_eqb, le-leb}
use Rattle.std.proofs.lemmas.Bool.Decides.{nat_tests}
use Rattle.labels.specs.Kind.{Kind}
use Rattle.labels.specs.Words.{word_at}
use Rattle.wires.specs.Wires.{Grown}
use Rattle.circuit.specs.Words.{all_below, part}
use Rattle.circuit.specs.Parts.{Parts}
use Rattle.circuit.specs.Forms.{is_table, fan_in, fan_out, reads, by_form}
use Rattle.circuit.specs.Gates.{form_of, operand_of, rows_from, made_before}
use Rattle.circuit.specs.Material.{gate_bytes}
use Rattle.circuit.specs.Lent.{parts_in, GateAt, new_in, operands_in}
use Rattle.circuit.specs.declared.gate.Gate.{Gate}
use Rattle.circuit.specs.declared.passed.Circuit.{Circuit}
use Rattle.circuit.specs.declared.gate.Gate.TheVariants.{Xor, And, Table}
use Rattle.circuit.proofs.Checks.{each_passes, gate_in_order}
use Rattle.circuit.proofs.GateParts.{table_high, gate_operand, gate_order, made_after, made_within}
use Rattle.gates.specs.Half.{garbled, joined}
use Rattle.gates.specs.Bytes.{bytes_at}
use Rattle.material.specs.Size.{bytes_of}
use Rattle.material.proofs.Sizes.{whole_bytes}
use Rattle.tables.specs.Gate.{material_for, zeros_for, evaluated, garbler_calls, evaluator_calls}
use Rattle.labels.specs.Lists.{listed, places}
use Rattle.tables.proofs.Packing.{listed_ext}
use Rattle.steps.specs.Gate.{rows_in, operand_labels, new_zeros, gate_material, new_labels, garble_calls, evaluate_calls}

-- the three forms
pub at_xor : {X : Type 0} (form : ℕ) (x a t : X) → form ≡ 0 → by_form form x a t ≡ x
at_xor form x a t e = let f : eqb form 0 ≡ true = eq-eqb form 0 e in rw f

pub at_and : {X : Type 0} (form : ℕ) (x a t : X) → form ≡ 1 → by_form form x a t ≡ a
at_and form x a t e =
    let f : eqb form 0 ≡ false = ne_eqb form 0 (omega arith) in
    let h : eqb form 1 ≡ true = eq-eqb form 1 e in
    rw (f, h)

table_above : (form : ℕ) → is_table form ≡ true → 1 < form
table_above form e = let h : 1 ≤ form / 256 = grind (arith, nat_tests) in omega arith

pub at_table : {X : Type 0} (form : ℕ) (x a t : X) → is_table form ≡ true → by_form form x a t ≡ t
at_table form x a t e =
    let l = table_above form e in
    let f : eqb form 0 ≡ false = ne_eqb form 0 (omega arith) in
    let h : eqb form 1 ≡ false = ne_eqb form 1 (omega arith) in
    rw (f, h)

-- the same wires with other names of their values
pub grown_as : {T : Type 0} (n n' m m' : ℕ) (f h : ℕ → T) (old new : List T) → n ≡ n' → m ≡ m' → ((j : ℕ) → j < m → f j ≡ h j) → Grown n m f old new → Grown n' m' h old new
grown_as n n' m m' f h old new en em e a = record {
  long = a.long;
  kept = λ w d l. a.kept w d (omega arith);
  fresh = λ j d l. ap (λ (k : ℕ). get_or new (k + j) d) (sym en) ∙ a.fresh j d (omega arith) ∙ e j (omega arith);
  past = λ w d l. a.past w d (omega arith);
}

-- a gate of a circuit that passed reads wires that are made, and there is room for its own
module _ (circuit : Circuit) (g made : ℕ) (there : g < circuit.arrays.sizes.gates) (before : made ≡ made_before (parts_in circuit.arrays) g) where
  abbrev c : Parts
  c = parts_in circuit.arrays

  pub reads_made : (gate : Gate) → GateAt c g gate → all_below (word_at (operands_in gate)) (length (operands_in gate) / 2) made ≡ true
  reads_made gate at =
      gate_order c g gate made at ∙ ap (λ (m : ℕ). all_below (operand_of c g) (reads (form_of c g)) m) before
      ∙ gate_in_order c g (each_passes c c.sizes.gates circuit.gates_pass g there)

  pub room_for : (gate : Gate) (size : ℕ) → GateAt c g gate → circuit.wires ≤ size → made + new_in gate ≤ size
  room_for gate size at room =
      let after = made_after c g gate made (new_in gate) at before refl in
      let most = made_within c (suc g) there in
      let counted = circuit.counted in
      omega arith

-- XOR and AND have two operands
pub two_operands : (ops : Bor (List ℕ)) (made : ℕ) → length ops.now ≡ 4 → all_below (word_at ops.now) (length ops.now / 2) made ≡ true → all_below (word_at ops.now) 2 made ≡ true
two_operands ops made l e = let h : 2 ≡ length ops.now / 2 = omega arith in ap (λ (k : ℕ). all_below (word_at ops.now) k made) h ∙ e

module _ (c : Parts) (g : ℕ) where
  module _ {L : Type 0} (K : Kind L) (v : ℕ → L) (F : L → ℕ → L) where
    module _ (ops : Bor (List ℕ)) (at : GateAt c g (Xor ops)) where
      first : v (word_at ops.now 0) ≡ v (operand_of c g 0)
      first = let f : leb (form_of c g) 1 ≡ true = le-leb (form_of c g) 1 (omega (arith, at.0)) in ap v (gate_operand c g (Xor ops) at 0 (rw f (omega arith)))

      second : v (word_at ops.now 1) ≡ v (operand_of c g 1)
      second = let f : leb (form_of c g) 1 ≡ true = le-leb (form_of c g) 1 (omega (arith, at.0)) in ap v (gate_operand c g (Xor ops) at 1 (rw f (omega arith)))

      both : K.xor (v (word_at ops.now 0)) (v (word_at ops.now 1)) ≡ K.xor (v (operand_of c g 0)) (v (operand_of c g 1))
      both = ap₂ K.xor first second

      pub xor_zeros : (seed Δ : L) (j : ℕ) → j < 1 → K.xor (v (word_at ops.now 0)) (v (word_at ops.now 1)) ≡ places K (new_zeros c g K v F seed Δ) j
      unfolding new_zeros
      xor_zeros seed Δ j l =
          let z : j ≡ 0 = omega arith in
          both ∙ sym (ap₂ (λ (xs : List L) (i : ℕ). places K xs i) (at_xor (form_of c g) _ _ _ at.0) z)

      pub xor_labels : (bytes : List ℕ) (j : ℕ) → j < 1 → K.xor (v (word_at ops.now 0)) (v (word_at ops.now 1)) ≡ places K (new_labels c g K v F bytes) j
      unfolding new_labels
      xor_labels bytes j l =
          let z : j ≡ 0 = omega arith in
          both ∙ sym (ap₂ (λ (xs : List L) (i : ℕ). places K xs i) (at_xor (form_of c g) _ _ _ at.0) z)

      pub xor_material : (seed Δ : L) → [] ≡ gate_material c g K v F seed Δ
      unfolding gate_material
      xor_material seed Δ = sym (at_xor (form_of c g) _ _ _ at.0)

    -- AND as gate k, which is g
    module _ (ops : Bor (List ℕ)) (at : GateAt c g (And ops)) (k : ℕ) (ek : k ≡ g) where
      left : v (word_at ops.now 0) ≡ v (operand_of c g 0)
      left = let f : leb (form_of c g) 1 ≡ true = le-leb (form_of c g) 1 (omega (arith, at.0)) in ap v (gate_operand c g (And ops) at 0 (rw f (omega arith)))

      right : v (word_at ops.now 1) ≡ v (operand_of c g 1)
      right = let f : leb (form_of c g) 1 ≡ true = le-leb (form_of c g) 1 (omega (arith, at.0)) in ap v (gate_operand c g (And ops) at 1 (rw f (omega arith)))

      triple : (Δ : L) → garbled K F k Δ (v (word_at ops.now 0)) (v (word_at ops.now 1)) ≡ garbled K F g Δ (v (operand_of c g 0)) (v (operand_of c g 1))
      triple Δ = (λ i. garbled K F (ek i) Δ (left i) (right i))

      pub and_zeros : (seed Δ : L) (j : ℕ) → j < 1 → (garbled K F k Δ (v (word_at ops.now 0)) (v (word_at ops.now 1))).2 ≡ places K (new_zeros c g K v F seed Δ) j
      unfolding new_zeros
      and_zeros seed Δ j l =
          let z : j ≡ 0 = omega arith in
          ap (λ (r : L × L × L). r.2) (triple Δ) ∙ sym (ap₂ (λ (xs : List L) (i : ℕ). places K xs i) (at_and (form_of c g) _ _ _ at.0) z)

      pub and_material : (seed Δ : L) → K.bytes (garbled K F k Δ (v (word_at ops.now 0)) (v (word_at ops.now 1))).0 ++ K.bytes (garbled K F k Δ (v (word_at ops.now 0)) (v (word_at ops.now 1))).1 ≡ gate_material c g K v F seed Δ
      unfolding gate_material
      and_material seed Δ =
          ap (λ (r : L × L × L). K.bytes r.0 ++ K.bytes r.1) (triple Δ) ∙ sym (at_and (form_of c g) _ _ _ at.0)

      pub and_labels : (bytes : List ℕ) (j : ℕ) → j < 1
          → joined K F k (K.from (bytes_at 0 K.width bytes)) (K.from (bytes_at K.width K.width bytes)) (v (word_at ops.now 0)) (v (word_at ops.now 1)) ≡ places K (new_labels c g K v F bytes) j
      unfolding new_labels
      and_labels bytes j l =
          let z : j ≡ 0 = omega arith in
          (λ i. joined K F (ek i) (K.from (bytes_at 0 K.width bytes)) (K.from (bytes_at K.width K.width bytes)) (left i) (right i))
          ∙ sym (ap₂ (λ (xs : List L) (i : ℕ). places K xs i) (at_and (form_of c g) _ _ _ at.0) z)

    -- a table as gate k, with p outputs
    module _ (n m : ℕ) (ops rows : Bor (List ℕ)) (at : GateAt c g (Table n m ops rows)) (k p : ℕ) (ek : k ≡ g) (ep : p ≡ m) where
      pub half : length ops.now / 2 ≡ n
      half = let l = at.4 in omega arith

      labels : listed (length ops.now / 2) (λ i. v (word_at ops.now i)) ≡ operand_labels c g K v
      labels =
          let f : leb (form_of c g) 1 ≡ false = table_high (form_of c g) at.0 in
          let r : reads (form_of c g) ≡ n = rw f (sym at.1) in
          listed_ext (length ops.now / 2) _ (λ i. v (operand_of c g i)) (λ i l. ap v (gate_operand c g (Table n m ops rows) at i (let h = half in omega arith)))
          ∙ ap (λ (i : ℕ). listed i (λ j. v (operand_of c g j))) (half ∙ sym r)

      row_bytes : rows.now ≡ rows_in c g
      row_bytes = at.5 ∙ ap (λ (i : ℕ). part (rows_from c g) (2 ^ i) c.rows) at.1

      outs : p ≡ fan_out (form_of c g)
      outs = ep ∙ at.2

      pub table_zeros : (seed Δ : L) → zeros_for K F k seed Δ (listed (length ops.now / 2) (λ i. v (word_at ops.now i))) rows.now p ≡ new_zeros c g K v F seed Δ
      unfolding new_zeros
      table_zeros seed Δ =
          (λ i. zeros_for K F (ek i) seed Δ (labels i) (row_bytes i) (outs i)) ∙ sym (at_table (form_of c g) _ _ _ at.0)

      pub table_material : (seed Δ : L) → material_for K F k seed Δ (listed (length ops.now / 2) (λ i. v (word_at ops.now i))) rows.now p ≡ gate_material c g K v F seed Δ
      unfolding gate_material
      table_material seed Δ =
          (λ i. material_for K F (ek i) seed Δ (labels i) (row_bytes i) (outs i)) ∙ sym (at_table (form_of c g) _ _ _ at.0)

      pub table_labels : (bytes : List ℕ) → evaluated K F k (length ops.now / 2) p bytes (places K (listed (length ops.now / 2) (λ i. v (word_at ops.now i)))) ≡ new_labels c g K v F bytes
      unfolding new_labels
      table_labels bytes =
          let n' : length ops.now / 2 ≡ fan_in (form_of c g) = half ∙ at.1 in
          (λ i. evaluated K F (ek i) (n' i) (outs i) bytes (places K (labels i))) ∙ sym (at_table (form_of c g) _ _ _ at.0)

  -- hash calls
  pub xor_calls : (ops : Bor (List ℕ)) → GateAt c g (Xor ops) → (garble_calls c g ≡ 0) × (evaluate_calls c g ≡ 0)
  unfolding garble_calls evaluate_calls
  xor_calls ops at = (at_xor (form_of c g) _ _ _ at.0, at_xor (form_of c g) _ _ _ at.0)

  pub and_calls : (ops : Bor (List ℕ)) → GateAt c g (And ops) → (garble_calls c g ≡ 4) × (evaluate_calls c g ≡ 2)
  unfolding garble_calls evaluate_calls
  and_calls ops at = (at_and (form_of c g) _ _ _ at.0, at_and (form_of c g) _ _ _ at.0)

  pub table_calls : (n m : ℕ) (ops rows : Bor (List ℕ)) → GateAt c g (Table n m ops rows) → (garble_calls c g ≡ garbler_calls n m) × (evaluate_calls c g ≡ evaluator_calls n m)
  unfolding garble_calls evaluate_calls
  table_calls n m ops rows at = (
    (at_table (form_of c g) _ _ _ at.0 ∙ ap₂ garbler_calls (sym at.1) (sym at.2)),
    (at_table (form_of c g) _ _ _ at.0 ∙ ap₂ evaluator_calls (sym at.1) (sym at.2)),
  )

  -- material bytes
  pub xor_bytes : (w : ℕ) (ops : Bor (List ℕ)) → GateAt c g (Xor ops) → gate_bytes (8 * w) (form_of c g) ≡ 0
  xor_bytes w ops at = ap (λ (b : ℕ). (b + 7) / 8) (at_xor (form_of c g) 0 (2 * (8 * w)) _ at.0)

  pub table_bytes : (w n m : ℕ) (ops rows : Bor (List ℕ)) → GateAt c g (Table n m ops rows) → gate_bytes (8 * w) (form_of c g) ≡ bytes_of w n m
  table_bytes w n m ops rows at =
      ap (λ (b : ℕ). (b + 7) / 8) (at_table (form_of c g) 0 (2 * (8 * w)) _ at.0)
      ∙ sym (whole_bytes w (fan_in (form_of c g)) (fan_out (form_of c g))) ∙ ap₂ (bytes_of w) (sym at.1) (sym at.2)
