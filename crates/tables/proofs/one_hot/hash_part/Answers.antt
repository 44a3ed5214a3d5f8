use Rattle.std.proofs.Common.{◌∙◌, arith}
use Rattle.tables.proofs.Growing.{between_more, grew_more, read_place}
use Rattle.tables.proofs.Running.{ran_then}
use Rattle.tables.proofs.one_hot.hash_part.Goals as goal

pub loop-i-preserved : goal.loop-i-preserved
loop-i-preserved g c =
    let K = g.L.Label.kind in
    let s = c.loop-i.invariant.0 in
    let x = read_place K c.loop-i.v c.loop-i.i c.index-v-i.result (omega arith) c.index-v-i.is ∙ s.midst c.loop-i.i (omega arith) (omega arith) in
    let e = c.loop-i.invariant.2.kept in (
      grew_more K _ _ c.loop-i.i _ _ _ _ _ s (omega arith) (omega arith) (omega arith) (cc) (cc),
      between_more K _ c.loop-i.i _ _ _ _ c.loop-i.invariant.1 (cc) c.xor-all.ensures,
      ran_then _ _ _ _ _ _ _ 1 _ c.loop-i.invariant.2 (record { kept = c.hash-c.ensures.kept; count = c.hash-c.ensures.count }) (omega arith),
    )
