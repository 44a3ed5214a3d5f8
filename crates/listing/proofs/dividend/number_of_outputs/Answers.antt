use Rattle.std.proofs.Common.{ℕ, ◌≤◌, Bool, eqb, get_or, arith, rules}
use Rattle.plain.proofs.Numbers.{shifted_fits}
use Rattle.labels.proofs.Numbers.{number_below}
use Rattle.listing.proofs.dividend.number_of_outputs.Goals as goal

pub overflow_add-sum : goal.overflow_add-sum
overflow_add-sum c =
    let f : ℕ → Bool = λ o. eqb (get_or c.args.outputs.now o 0) 1 in
    let r = number_below c.loop-j.j f in
    let b : c.from.result ≤ 1 = search rules in
    let s = shifted_fits c.loop-j.j c.loop-j.sum c.from.result 32 (omega arith) b (omega arith) in
    search rules
