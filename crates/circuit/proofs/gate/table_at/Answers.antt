use Rattle.std.proofs.Common.{◌≡◌, ℕ, ◌+◌, ◌-◌, ◌*◌, ◌/◌, ◌≤◌, List, length, take, sym, ap, ◌∙◌, arith, rules}
use Rattle.std.proofs.lemmas.Result.{err_from_is_err_and}
use Rattle.circuit.specs.Lent.{parts_in}
use Rattle.circuit.specs.Words.{part}
use Rattle.circuit.specs.Parts.{Parts}
use Rattle.circuit.specs.Gates.{form_of, place_of, rows_from}
use Rattle.std.proofs.lemmas.List.{length-take-le}
use Rattle.labels.specs.Words.{word_at}
use Rattle.circuit.proofs.Wholes.{whole_in}
use Rattle.circuit.proofs.Shapes.{table_unknown, operands_past, rows_past, table_fits, is_table_form}
use Rattle.circuit.proofs.Stretches.{word_of_part, part_front, length_part}
use Rattle.circuit.proofs.gate.table_at.Goals as goal

-- the operand words of a table of n inputs are n + 1
long : (words ops : List ℕ) (p k n : ℕ) → k ≡ n → 2 * (p + (k + 1)) ≤ length ops → words ≡ part p (k + 1) ops → length words ≡ 2 * (n + 1)
long words ops p k n e l w = ap length w ∙ length_part p (k + 1) ops l ∙ ap (λ (i : ℕ). 2 * (i + 1)) e

-- the last of them is the place of the first row
from : (c : Parts) (g f p k i first : ℕ) (words : List ℕ) → f ≡ form_of c g → p ≡ place_of c g → k ≡ f / 256 → i ≡ f / 256 → words ≡ part p (k + 1) c.operands → first ≡ word_at words i → first ≡ rows_from c g
from c g f p k i first words ef ep ek ei w e =
    let a : i ≡ k = ei ∙ sym ek in
    let m : word_at (part p (k + 1) c.operands) k ≡ word_at c.operands (p + k) = word_of_part p (k + 1) k c.operands (omega arith) in
    let n : k ≡ form_of c g / 256 = ek ∙ ap (λ (j : ℕ). j / 256) ef in
    e ∙ ap (λ (xs : List ℕ). word_at xs i) w ∙ ap (λ (j : ℕ). word_at (part p (k + 1) c.operands) j) a ∙ m ∙ cc

pub returns-then-not-table_form : goal.returns-then-not-table_form
returns-then-not-table_form c =
    table_unknown (parts_in c.args.a) c.args.g c.args.form c.args.place c.requires.formed c.requires.placed (whole_in c.args.a) c.requires.high (sym c.if-not-table_form.ensures)

pub returns-in_err-words : goal.returns-in_err-words
returns-in_err-words c =
    let p = err_from_is_err_and c.from_residual.result c.from_residual.ensures.1 in
    let e = c.in_err-words.ensures in
    let l = e.1 in
    rw (p.1, p.2, e.0) (operands_past (parts_in c.args.a) c.args.g c.args.form c.args.place c.requires.formed c.requires.placed (whole_in c.args.a) c.requires.high (sym c.if-not-table_form.ensures) (omega arith))

pub returns-in_err-rows : goal.returns-in_err-rows
returns-in_err-rows c =
    let s = c.in_ok-words.ensures in
    let r = from (parts_in c.args.a) c.args.g c.args.form c.args.place c.from.result c.from-2.result c.word_at-first.result c.in_ok-words.words.now c.requires.formed c.requires.placed c.from.ensures c.from-2.ensures s.1 c.word_at-first.ensures in
    let p = err_from_is_err_and c.from_residual-in_err-rows.result c.from_residual-in_err-rows.ensures.1 in
    let e = c.in_err-rows.ensures in
    let l = e.1 in
    rw (p.1, p.2, e.0) (rows_past (parts_in c.args.a) c.args.g c.args.form c.args.place c.requires.formed c.requires.placed (whole_in c.args.a) c.requires.high (sym c.if-not-table_form.ensures)
    c.word_at-first.result r (omega arith))

pub returns : goal.returns
returns c =
    let s = c.in_ok-words.ensures in
    let t = c.in_ok-rows.ensures in
    let is = sym c.if-not-table_form.ensures in
    let r = from (parts_in c.args.a) c.args.g c.args.form c.args.place c.from.result c.from-2.result c.word_at-first.result c.in_ok-words.words.now c.requires.formed c.requires.placed c.from.ensures c.from-2.ensures s.1 c.word_at-first.ensures in
    let f = part_front c.args.place (c.from.result + 1) c.from.result c.args.a.operands.now (omega arith) in
    let z : 2 * c.from-3.result - 0 ≡ 2 * c.from.result = omega arith in
    let o : take (2 * c.from-3.result - 0) c.in_ok-words.words.now ≡ part (place_of (parts_in c.args.a) c.args.g) (c.args.form / 256) c.args.a.operands.now = cc in
    let l : length c.in_ok-words.words.now ≡ 2 * (c.args.form / 256 + 1) = long c.in_ok-words.words.now _ _ _ _ c.from.ensures s.0 s.1 in
    let m : length (take (2 * c.from-3.result - 0) c.in_ok-words.words.now) ≡ 2 * (c.args.form / 256) = search (rules, length-take-le) in
    let k = length_part c.word_at-first.result c.two_to.result c.args.a.rows.now t.0 in (
      table_fits (parts_in c.args.a) c.args.g c.args.form c.args.place c.requires.formed c.requires.placed (whole_in c.args.a) c.requires.high is c.word_at-first.result r (omega arith) (omega (arith, t.0)),
      (
        is_table_form (parts_in c.args.a) c.args.g c.args.form c.args.place c.requires.formed c.requires.placed (whole_in c.args.a) c.requires.high is,
        (cc),
        (cc),
        o,
        m,
        (cc),
        (cc),
      ),
    )
