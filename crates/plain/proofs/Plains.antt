-- Plain evaluation, gate by gate. Assumes nothing.
use Rattle.std.proofs.Common.{◌≡◌, ℕ, suc, ◌+◌, ◌/◌, ◌^◌, ◌<◌, ◌≤◌, Bool, true, false, ◌&&◌, eqb, leb, List, get_or, sym, ap, ◌∙◌, ap₂, inl, inr, arith}
use Rattle.std.proofs.lemmas.Bool.{eq-eqb, ne_eqb, cases_Bool}
use Rattle.std.proofs.lemmas.Bool.Decides.{nat_tests}
use Rattle.labels.specs.Kind.{differs}
use Rattle.labels.specs.Numbers.{bit, number}
use Rattle.labels.specs.Words.{word_at}
use Rattle.circuit.specs.Forms.{known, is_table, fan_in, reads, makes}
use Rattle.circuit.specs.Parts.{Parts}
use Rattle.circuit.specs.Gates.{form_of, operand_of, row_of, rows_from, made_before, in_order}
use Rattle.circuit.specs.Lent.{GateAt, new_in, operands_in}
use Rattle.plain.specs.Plain.{new_bit, gate_bit, plain_rule, plain_bit}
use Rattle.wires.specs.Wires.{Grown, Filled, wire_after}
use Rattle.circuit.specs.declared.gate.Gate.{Gate}
use Rattle.circuit.specs.declared.gate.Gate.TheVariants.{Xor, And, Table}
use Rattle.circuit.proofs.Bounds.{each_below}
use Rattle.circuit.proofs.Stretches.{word_of_part}
use Rattle.wires.proofs.Growth.{filled_grown}
use Rattle.wires.proofs.Made.{wire_kept, wire_fresh, wire_stays}
use Rattle.circuit.proofs.GateParts.{gate_operand, made_rises}
use Rattle.labels.proofs.Numbers.{number_below, number_same}

module _ (c : Parts) (g : ℕ) where
  -- a gate of the code tells its rule
  pub gate_rule : (gate : Gate) (x : ℕ → Bool) (j : ℕ) → GateAt c g gate → new_bit gate x j ≡ gate_bit c g x j
  unfolding gate_bit
  gate_rule (Xor operands) x j e = let f : eqb (form_of c g) 0 ≡ true = eq-eqb (form_of c g) 0 e.0 in rw f
  gate_rule (And operands) x j e =
      let f0 : eqb (form_of c g) 0 ≡ false = ne_eqb (form_of c g) 0 (λ h. omega arith) in
      let f1 : eqb (form_of c g) 1 ≡ true = eq-eqb (form_of c g) 1 e.0 in
      rw (f0, f1)
  gate_rule (Table n m operands rows) x j e =
      let t : is_table (form_of c g) ≡ true = e.0 in
      let h : 1 ≤ form_of c g / 256 = grind (arith, nat_tests) in
      let f0 : eqb (form_of c g) 0 ≡ false = ne_eqb (form_of c g) 0 (λ z. omega arith) in
      let f1 : eqb (form_of c g) 1 ≡ false = ne_eqb (form_of c g) 1 (λ z. omega arith) in
      let r : word_at rows.now (number n x) ≡ row_of c g (number n x) = ap (λ (xs : List ℕ). word_at xs (number n x)) e.5 ∙ word_of_part (rows_from c g) (2 ^ n) (number n x) c.rows (number_below n x) in
      rw (f0, f1) (ap (bit j) (r ∙ ap (λ (k : ℕ). row_of c g (number k x)) e.1))

  -- a gate looks only at the wires that it reads
  pub gate_same : known (form_of c g) ≡ true → (x y : ℕ → Bool) (j : ℕ) → ((i : ℕ) → i < reads (form_of c g) → x i ≡ y i) → gate_bit c g x j ≡ gate_bit c g y j
  unfolding gate_bit
  gate_same k x y j e =
      elim (cases_Bool (leb (form_of c g) 1)) [
        | inl low ↦ (
            let a : x 0 ≡ y 0 = e 0 (rw low (omega arith)) in
            let b : x 1 ≡ y 1 = e 1 (rw low (omega arith)) in
            elim (cases_Bool (eqb (form_of c g) 0)) [
              | inl z ↦ rw z (ap₂ differs a b)
              | inr z ↦ (let o : eqb (form_of c g) 1 ≡ true = grind (arith, nat_tests) in rw (z, o) (ap₂ (λ (p q : Bool). p && q) a b))
            ])
        | inr high ↦ (
            let z : eqb (form_of c g) 0 ≡ false = grind (arith, nat_tests) in
            let o : eqb (form_of c g) 1 ≡ false = grind (arith, nat_tests) in
            rw (z, o) (ap (λ (n : ℕ). bit j (row_of c g n)) (number_same (fan_in (form_of c g)) x y (λ i l. e i (rw high l)))))
      ]

-- a sequence that never falls
module _ (c : Parts) (given : ℕ → Bool) where
  -- what is on the wires once one gate more is made
  pub plain_more : (g made : ℕ) (gate : Gate) (old mid new : List Bool) → GateAt c g gate → known (form_of c g) ≡ true → in_order c g ≡ true → made ≡ made_before c g
      → Filled made (wire_after (made_before c) (plain_rule c) given g) old mid
      → Grown made (new_in gate) (new_bit gate (λ i. get_or mid (word_at (operands_in gate) i) false)) mid new
      → Filled (made + new_in gate) (wire_after (made_before c) (plain_rule c) given (suc g)) old new
  plain_more g made gate old mid new at form order em a b =
      let V : ℕ → Bool = wire_after (made_before c) (plain_rule c) given g in
      let U : ℕ → Bool = wire_after (made_before c) (plain_rule c) given (suc g) in
      let x : ℕ → Bool = λ i. get_or mid (word_at (operands_in gate) i) false in
      let y : ℕ → Bool = λ i. V (operand_of c g i) in
      let kept : Filled made U old mid = record {
        long = a.long;
        front = λ w d l. a.front w d l ∙ sym (wire_kept (made_before c) (plain_rule c) given g w (omega arith));
        past = a.past;
      } in
      let same : (i : ℕ) → i < reads (form_of c g) → x i ≡ y i = λ i l.
      let o : word_at (operands_in gate) i ≡ operand_of c g i = gate_operand c g gate at i l in
      let below : operand_of c g i < made_before c g = each_below (operand_of c g) (reads (form_of c g)) (made_before c g) order i l in
      ap (λ (w : ℕ). get_or mid w false) o ∙ a.front (operand_of c g i) false (omega arith) in
      filled_grown made (new_in gate) U (new_bit gate x) old mid new kept b (λ j l.
      gate_rule c g gate x j at ∙ gate_same c g form x y j same
      ∙ sym (wire_fresh (made_before c) (plain_rule c) given g j) ∙ ap (λ (n : ℕ). U (n + j)) (sym em))

  -- the bits of the definition are those of a plain run
  pub bits_run : (known_form : (g : ℕ) → g < c.sizes.gates → known (form_of c g) ≡ true) → (order : (g : ℕ) → g < c.sizes.gates → in_order c g ≡ true)
      → (g j : ℕ) → g < c.sizes.gates → j < makes (form_of c g)
      → plain_bit c given (made_before c g + j) ≡ gate_bit c g (λ i. plain_bit c given (operand_of c g i)) j
  bits_run forms order g j h l =
      let Q : ℕ = c.sizes.gates in
      let m : made_before c (suc g) ≡ made_before c g + makes (form_of c g) = omega arith in
      wire_stays (made_before c) (plain_rule c) given (made_rises c) (suc g) Q (made_before c g + j) (omega arith) (omega arith)
      ∙ wire_fresh (made_before c) (plain_rule c) given g j
      ∙ gate_same c g (forms g h) _ _ j (λ i k.
      let below : operand_of c g i < made_before c g = each_below (operand_of c g) (reads (form_of c g)) (made_before c g) (order g h) i k in
      sym (wire_stays (made_before c) (plain_rule c) given (made_rises c) g Q (operand_of c g i) (omega arith) below))

  -- an input keeps its bit
  pub bits_given : (i : ℕ) → i < c.sizes.inputs → plain_bit c given i ≡ given i
  bits_given i h = wire_stays (made_before c) (plain_rule c) given (made_rises c) 0 c.sizes.gates i (omega arith) (omega arith)
