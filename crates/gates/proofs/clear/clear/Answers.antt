use Rattle.std.proofs.Common.{length, replicate, sym, ◌∙◌, arith}
use Rattle.std.proofs.lemmas.List.{ext_get_or, length-replicate, get_or-replicate}
use Rattle.gates.proofs.clear.clear.Goals as goal

pub returns : goal.returns
returns g c =
    let zero = g.L.Label.kind.zero in
    let n = length c.args.labels.now in
    let long = length-replicate n zero in
    ext_get_or zero c.loop-label.labels (replicate n zero) (omega arith) (λ k l. c.loop-label.invariant k (omega arith) ∙ sym (get_or-replicate n k zero zero (omega arith)))
