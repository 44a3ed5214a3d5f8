use Rattle.std.proofs.Common.{arith, pow_mono}
use Rattle.std.proofs.lemmas.Nat.{one_shl}
use Rattle.labels.specs.Lists.{places}
use Rattle.labels.proofs.Numbers.{number_below}
use Rattle.tables.proofs.number.colours.Goals as goal

pub overflow_add-number : goal.overflow_add-number
overflow_add-number g c =
    let K = g.L.Label.kind in
    let k = c.loop-k.k in
    let x = c.loop-k.invariant in
    let one = one_shl k 64 (omega arith) in
    let b = number_below k (λ i. K.colour (places K c.args.labels.now i)) in
    let p = pow_mono {i = k} {j = 8} (omega arith) in
    omega arith
