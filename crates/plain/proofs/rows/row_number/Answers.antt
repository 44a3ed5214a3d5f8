use Rattle.std.proofs.Common.{◌≡◌, ℕ, ◌/◌, ◌^◌, ◌<◌, ◌≤◌, Bool, false, length, get_or, subst, arith, rules}
use Rattle.labels.specs.Words.{word_at}
use Rattle.circuit.proofs.Bounds.{each_below}
use Rattle.plain.proofs.Numbers.{shifted_fits}
use Rattle.labels.proofs.Numbers.{number_below}
use Rattle.plain.proofs.rows.row_number.Goals as goal

pub read-requires : goal.read-requires
read-requires c =
    let made = each_below (word_at c.args.operands.now) _ _ c.requires.order c.loop-j.j (omega arith) in
    (rw c.word_at.ensures made, c.requires.room)

pub overflow_add-row : goal.overflow_add-row
overflow_add-row c =
    let f : ℕ → Bool = λ i. get_or c.args.wires.now.values.now (word_at c.args.operands.now i) false in
    let r = number_below c.loop-j.j f in
    let b : c.from.result ≤ 1 = search rules in
    let s = shifted_fits c.loop-j.j c.loop-j.row c.from.result 64 (omega arith) b (omega arith) in
    search rules

pub returns-clause-small : goal.returns-clause-small
returns-clause-small c =
    let f : ℕ → Bool = λ i. get_or c.args.wires.now.values.now (word_at c.args.operands.now i) false in
    let r = number_below c.loop-j.j f in
    let e : c.loop-j.j ≡ length c.args.operands.now / 2 = omega arith in
    subst (λ (n : ℕ). c.loop-j.row < 2 ^ n) e (omega arith)

pub loop-j-preserved : goal.loop-j-preserved
loop-j-preserved c = let bit = c.read.ensures false in search rules
