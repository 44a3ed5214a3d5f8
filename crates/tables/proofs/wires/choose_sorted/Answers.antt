use Rattle.std.proofs.Common.{ℕ, length, get_or, refl, ◌∙◌, arith}
use Rattle.std.proofs.lemmas.List.{get_or-replicate, length-replicate}
use Rattle.labels.specs.Lists.{places}
use Rattle.tables.proofs.Buckets.{sorted_first}
use Rattle.tables.proofs.Filling.{holds_none, holds_more}
use Rattle.tables.proofs.wires.choose_sorted.Goals as goal

pub sort-requires-clause-empty : goal.sort-requires-clause-empty
sort-requires-clause-empty g c = λ i l. get_or-replicate 64 i _ g.L.Label.kind.zero l ∙ c.zero-buckets.ensures

pub loop-j-init : goal.loop-j-init
loop-j-init g c =
    let K = g.L.Label.kind in
    let p : ℕ → ℕ = λ i. get_or c.args.nums.now i 0 in (
      holds_none K 0 _ _ refl,
      sorted_first K (length c.args.v.now) p (places K c.args.v.now) c.sort.new.buckets c.sort.ensures,
      c.sort.auto.buckets ∙ length-replicate 64 c.zero-buckets.result,
    )

pub loop-j-preserved : goal.loop-j-preserved
loop-j-preserved g c =
    let K = g.L.Label.kind in
    let w = length c.args.v.now in
    let p : ℕ → ℕ = λ i. get_or c.args.nums.now i 0 in
    let V = places K c.args.v.now in
    let inv = c.loop-j.invariant in
    let t = c.take_wire.ensures in (
      holds_more K _ _ _ _ _ inv.0 (omega arith) (t.answer w p V inv.1) refl,
      t.left w p V inv.1,
      c.take_wire.auto.buckets ∙ inv.2,
    )
