-- What a gate of the code tells of the circuit. Assumes nothing.
use Rattle.std.proofs.Common.{◌≡◌, ℕ, suc, ◌+◌, ◌*◌, ◌/◌, ◌^◌, ◌<◌, ◌≤◌, Bool, true, false, leb, List, length, sym, ap, ◌∙◌, arith}
use Rattle.std.proofs.lemmas.Bool.Decides.{nat_tests}
use Rattle.std.proofs.lemmas.Bool.{lt-leb, le-leb}
use Rattle.labels.specs.Words.{word_at}
use Rattle.circuit.specs.Words.{part, all_below}
use Rattle.circuit.specs.Forms.{is_table, fan_in, fan_out, reads, makes}
use Rattle.circuit.specs.Parts.{Parts}
use Rattle.circuit.specs.Gates.{form_of, place_of, operand_of, row_of, rows_from, in_order, rows_fit, made_before, wires_in}
use Rattle.circuit.specs.Lent.{GateAt, Shaped, new_in, operands_in, narrow}
use Rattle.circuit.specs.declared.gate.Gate.{Gate}
use Rattle.circuit.specs.declared.gate.Gate.TheVariants.{Xor, And, Table}
use Rattle.wires.proofs.Made.{rises}
use Rattle.circuit.proofs.Bounds.{below_same}
use Rattle.circuit.proofs.Stretches.{word_of_part}

-- a table's form is above 1
pub table_high : (f : ℕ) → is_table f ≡ true → leb f 1 ≡ false
table_high f e =
    let h : 1 ≤ f / 256 = grind (arith, nat_tests) in
    lt-leb f 1 (omega arith)

-- the words of a whole part
pub words_of : (xs array : List ℕ) (from n bound : ℕ) → xs ≡ part from n array → length xs ≡ 2 * n → all_below (word_at xs) (length xs / 2) bound ≡ all_below (λ k. word_at array (from + k)) n bound
words_of xs array from n bound e l =
    let h : length xs / 2 ≡ n = omega arith in
    ap (λ (k : ℕ). all_below (word_at xs) k bound) h
    ∙ below_same (word_at xs) (λ k. word_at array (from + k)) n bound (λ k lt. ap (λ (ys : List ℕ). word_at ys k) e ∙ word_of_part from n k array lt)

module _ (c : Parts) (g : ℕ) where
  pub gate_makes : (gate : Gate) → GateAt c g gate → new_in gate ≡ makes (form_of c g)
  gate_makes (Xor operands) e = let f : leb (form_of c g) 1 ≡ true = le-leb (form_of c g) 1 (omega arith) in rw f
  gate_makes (And operands) e = let f : leb (form_of c g) 1 ≡ true = le-leb (form_of c g) 1 (omega arith) in rw f
  gate_makes (Table n m operands rows) e = let f : leb (form_of c g) 1 ≡ false = table_high (form_of c g) e.0 in rw f e.2

  pub gate_order : (gate : Gate) (made : ℕ) → GateAt c g gate → all_below (word_at (operands_in gate)) (length (operands_in gate) / 2) made ≡ all_below (operand_of c g) (reads (form_of c g)) made
  gate_order (Xor operands) made e =
      let f : leb (form_of c g) 1 ≡ true = le-leb (form_of c g) 1 (omega arith) in
      rw f (words_of operands.now c.operands (place_of c g) 2 made e.1 e.2)
  gate_order (And operands) made e =
      let f : leb (form_of c g) 1 ≡ true = le-leb (form_of c g) 1 (omega arith) in
      rw f (words_of operands.now c.operands (place_of c g) 2 made e.1 e.2)
  gate_order (Table n m operands rows) made e =
      let f : leb (form_of c g) 1 ≡ false = table_high (form_of c g) e.0 in
      let w = words_of operands.now c.operands (place_of c g) n made e.3 e.4 in
      rw f (w ∙ ap (λ (k : ℕ). all_below (operand_of c g) k made) e.1)

  -- what the code's test of the operands tells
  pub gate_ordered : (gate : Gate) (made : ℕ) (b : Bool) → GateAt c g gate → made ≡ made_before c g → b ≡ all_below (word_at (operands_in gate)) (length (operands_in gate) / 2) made → in_order c g ≡ b
  gate_ordered gate made b e before t = sym (t ∙ gate_order gate made e ∙ ap (λ (m : ℕ). all_below (operand_of c g) (reads (form_of c g)) m) before)

  pub gate_rows : (gate : Gate) → GateAt c g gate → narrow gate ≡ rows_fit c g
  gate_rows (Xor operands) e = let f : leb (form_of c g) 1 ≡ true = le-leb (form_of c g) 1 (omega arith) in rw f
  gate_rows (And operands) e = let f : leb (form_of c g) 1 ≡ true = le-leb (form_of c g) 1 (omega arith) in rw f
  gate_rows (Table n m operands rows) e =
      let f : leb (form_of c g) 1 ≡ false = table_high (form_of c g) e.0 in
      let w = words_of rows.now c.rows (rows_from c g) (2 ^ n) (2 ^ m) e.5 e.6 in
      let a = e.1 in
      let b = e.2 in
      rw f (w ∙ ap (λ (k : ℕ). all_below (row_of c g) (2 ^ k) (2 ^ m)) a ∙ ap (λ (k : ℕ). all_below (row_of c g) (2 ^ fan_in (form_of c g)) (2 ^ k)) b)

  pub made_after : (gate : Gate) (m k : ℕ) → GateAt c g gate → m ≡ made_before c g → k ≡ new_in gate → m + k ≡ made_before c (suc g)
  made_after gate m k e before new = let n : new_in gate ≡ makes (form_of c g) = gate_makes gate e in omega arith

  -- a gate of the code tells its parts' lengths and its operands
  pub gate_shaped : (gate : Gate) → GateAt c g gate → Shaped gate
  gate_shaped (Xor operands) e = e.2
  gate_shaped (And operands) e = e.2
  gate_shaped (Table n m operands rows) e =
      let t : is_table (form_of c g) ≡ true = e.0 in
      let f : fan_in (form_of c g) ≤ 8 = grind (arith, nat_tests) in
      let o : fan_out (form_of c g) ≤ 16 = grind (arith, nat_tests) in
      (omega arith, omega arith, e.4, e.6)

  pub gate_operand : (gate : Gate) → GateAt c g gate → (i : ℕ) → i < reads (form_of c g) → word_at (operands_in gate) i ≡ operand_of c g i
  gate_operand (Xor operands) e i h =
      let f : leb (form_of c g) 1 ≡ true = le-leb (form_of c g) 1 (omega arith) in
      let l : i < 2 = rw f at h in
      ap (λ (xs : List ℕ). word_at xs i) e.1 ∙ word_of_part (place_of c g) 2 i c.operands l
  gate_operand (And operands) e i h =
      let f : leb (form_of c g) 1 ≡ true = le-leb (form_of c g) 1 (omega arith) in
      let l : i < 2 = rw f at h in
      ap (λ (xs : List ℕ). word_at xs i) e.1 ∙ word_of_part (place_of c g) 2 i c.operands l
  gate_operand (Table n m operands rows) e i h =
      let f : leb (form_of c g) 1 ≡ false = table_high (form_of c g) e.0 in
      let k : i < fan_in (form_of c g) = rw f at h in
      let a = e.1 in
      let l : i < n = omega arith in
      ap (λ (xs : List ℕ). word_at xs i) e.3 ∙ word_of_part (place_of c g) n i c.operands l

module _ (c : Parts) where
  pub made_rises : (g : ℕ) → made_before c g ≤ made_before c (suc g)
  made_rises g = omega arith

  pub made_within : (g : ℕ) → g ≤ c.sizes.gates → made_before c g ≤ wires_in c
  made_within g h = rises (made_before c) made_rises g c.sizes.gates h
