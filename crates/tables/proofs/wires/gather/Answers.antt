use Rattle.std.proofs.Common.{ℕ, length, get_or, ap, ap₂, ◌∙◌, sym}
use Rattle.std.proofs.lemmas.List.{length_push}
use Rattle.std.proofs.lemmas.Slice.Zip.{zip_turn}
use Rattle.labels.specs.Kind.{times}
use Rattle.labels.specs.Numbers.{bit}
use Rattle.labels.specs.Lists.{places}
use Rattle.tables.proofs.Sums.{sum_more, sum_all}
use Rattle.tables.proofs.wires.gather.Goals as goal

pub loop-n-preserved : goal.loop-n-preserved
loop-n-preserved g c =
    let K = g.L.Label.kind in
    let z₁ = c.zip-n-items.ensures.first in
    let z₂ = c.zip-n-items.ensures.second in
    let e = c.into_iter-n-iterator.ensures.into_iter_gives in
    let r = c.iter.ensures.rest in
    let t = zip_turn c.args.nums.now c.args.v.now c.loop-n.yielded c.into_iter-n-iterator.result c.loop-n.n-iterator c.next.new.self c.next.result (cc) (cc) c.loop-n.yielded_by (c.in-Some.n, c.in-Some.x) c.in-Some.is c.next.ensures.steps in
    let k = length c.loop-n.yielded in
    let f : ℕ → g.row.L.Denot = λ i. times K (bit c.args.j (get_or c.args.nums.now i 0)) (places K c.args.v.now i) in
    sum_all K _ _ f _
    (sum_more K k f _ _ _ c.loop-n.invariant (c.times.ensures ∙ ap₂ (times K) (c.has_bit.ensures ∙ ap (bit c.args.j) (t.2 0)) (t.3 K.zero)) c.xor-all.ensures)
    (sym (length_push c.loop-n.yielded (c.in-Some.n, c.in-Some.x)))
