use Rattle.std.proofs.Common.{◌≡◌, ℕ, ◌+◌, ◌-◌, ◌/◌, Bool, false, List, length, get_or, take, drop, sym, ap, ◌∙◌, subst, arith, Bor, rules}
use Rattle.std.proofs.lemmas.List.{length-drop, length-take-le}
use Rattle.labels.specs.Numbers.{bit, number}
use Rattle.labels.specs.Words.{word_at}
use Rattle.circuit.specs.Lent.{new_in, operands_in, Shaped}
use Rattle.plain.specs.Plain.{new_bit}
use Rattle.circuit.specs.declared.gate.Gate.{Gate}
use Rattle.circuit.specs.declared.gate.Gate.TheVariants.{Table}
use Rattle.wires.proofs.Growth.{put_grown}
use Rattle.plain.proofs.gate.plain_gate.Goals as goal

-- the bits of the row that the operands choose
row_bits : (gate : Gate) (n m : ℕ) (ops rows : Bor (List ℕ)) → gate ≡ Table n m ops rows → Shaped gate → (ws : List Bool) (x row : ℕ)
    → x ≡ number (length ops.now / 2) (λ i. get_or ws (word_at ops.now i) false) → row ≡ word_at rows.now x
    → (j : ℕ) → bit j row ≡ new_bit gate (λ i. get_or ws (word_at (operands_in gate) i) false) j
row_bits gate n m ops rows is shaped ws x row ex er j =
    let s : Shaped (Table n m ops rows) = subst Shaped is shaped in
    let h : length ops.now / 2 ≡ n = omega arith in
    ap (bit j) (er ∙ ap (word_at rows.now) (ex ∙ ap (λ (k : ℕ). number k (λ i. get_or ws (word_at ops.now i) false)) h))
    ∙ ap (λ (q : Gate). new_bit q (λ i. get_or ws (word_at (operands_in q) i) false) j) (sym is)

pub returns-in-Table-clause-grown : goal.returns-in-Table-clause-grown
returns-in-Table-clause-grown c =
    let ws : List Bool = c.args.wires.now.values.now in
    let made : ℕ = c.args.wires.now.made in
    let is = c.in-Table.is in
    let m : new_in c.args.gate ≡ c.in-Table.m = ap (λ (q : Gate). new_in q) is in
    let k : made + c.from.result - made ≡ new_in c.args.gate = search rules in
    let l : length (take (made + c.from.result - made) (drop made ws)) ≡ new_in c.args.gate = search (rules, length-drop, length-take-le) in
    let b = row_bits c.args.gate _ _ _ _ is c.requires.shaped ws _ _ c.row_number.ensures.number c.word_at-row.ensures in
    put_grown made (new_in c.args.gate) _ _ ws c.write_bits.new.out k (search rules) c.requires.room false (λ j h. c.write_bits.ensures j (omega arith) ∙ b j)
