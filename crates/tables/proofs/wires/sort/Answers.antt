use Rattle.std.proofs.Common.{length, get_or}
use Rattle.std.proofs.lemmas.List.{length_push}
use Rattle.std.proofs.lemmas.Slice.Zip.{zip_turn}
use Rattle.labels.specs.Lists.{places}
use Rattle.tables.proofs.Buckets.{sorted_more}
use Rattle.tables.proofs.wires.sort.Goals as goal

pub loop-n-preserved : goal.loop-n-preserved
loop-n-preserved g c =
    let K = g.L.Label.kind in
    let z₁ = c.zip-n-items.ensures.first in
    let z₂ = c.zip-n-items.ensures.second in
    let e = c.into_iter-n-iterator.ensures.into_iter_gives in
    let r = c.iter.ensures.rest in
    let t = zip_turn c.args.nums.now c.args.v.now c.loop-n.yielded c.into_iter-n-iterator.result c.loop-n.n-iterator c.next.new.self c.next.result (cc) (cc) c.loop-n.yielded_by (c.in-Some.n, c.in-Some.x) c.in-Some.is c.next.ensures.steps in
    sorted_more K (length c.loop-n.yielded) (λ i. get_or c.args.nums.now i 0) (places K c.args.v.now) _ _ _ c.loop-n.buckets _ c.loop-n.invariant (t.2 0) (t.3 K.zero)
    (length_push c.loop-n.yielded (c.in-Some.n, c.in-Some.x)) c.add_four.ensures
