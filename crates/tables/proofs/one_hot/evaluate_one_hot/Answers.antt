use Rattle.std.proofs.Common.{◌≡◌, ℕ, ◌+◌, ◌-◌, ◌*◌, ◌^◌, cond, length, sym, refl, ap, ◌∙◌, ap₂, add-zero, add-one, arith, length-set}
use Rattle.labels.specs.Lists.{places}
use Rattle.tables.specs.Material.{row_at, one_hot_rows}
use Rattle.tables.proofs.Growing.{read_place}
use Rattle.tables.proofs.Hot.{two_fit, next_fits, more_than, seen_none, seen_more, colours_more}
use Rattle.tables.proofs.Masks.{shifted}
use Rattle.labels.proofs.Numbers.{two_pow, number_below}
use Rattle.tables.proofs.Parts.{part_at}
use Rattle.tables.proofs.Running.{ran_none, ran_then}
use Rattle.tables.proofs.one_hot.evaluate_one_hot.Goals as goal

pub bounds-v-1 : goal.bounds-v-1
bounds-v-1 g c = let p = two_fit (length c.args.labels.now) (omega arith) in simp length-set (omega arith)

pub grow_around-requires-clause-room : goal.grow_around-requires-clause-room
grow_around-requires-clause-room g c =
    let j : ℕ = c.loop-k.k + 1 in
    let n = length c.args.labels.now in
    let s = shifted j n (omega arith) (omega arith) in
    let p = next_fits j n (omega arith) in
    let e : length c.loop-k.v ≡ length c.args.v.now = c.loop-k.auto.v ∙ simp length-set in
    omega arith

pub grow_around-requires-clause-within : goal.grow_around-requires-clause-within
grow_around-requires-clause-within g c =
    let K = g.L.Label.kind in
    let j : ℕ = c.loop-k.k + 1 in
    let x = c.loop-k.invariant.0 in
    let s = shifted j (length c.args.labels.now) (omega arith) (omega arith) in
    let b = number_below j (λ k. K.colour (places K c.args.labels.now k)) in
    omega arith

pub overflow_add-x : goal.overflow_add-x
overflow_add-x g c =
    let K = g.L.Label.kind in
    let j : ℕ = c.loop-k.k + 1 in
    let x = c.loop-k.invariant.0 in
    let s = shifted j (length c.args.labels.now) (omega arith) (omega arith) in
    let b = number_below j (λ k. K.colour (places K c.args.labels.now k)) in
    omega arith

pub loop-k-init : goal.loop-k-init
loop-k-init g c =
    let K = g.L.Label.kind in
    let F = g.H.LabelHash.means c.args.h.now in
    let E = places K c.args.labels.now in
    let two = two_fit (length c.args.labels.now) (omega arith) in
    let b = read_place K c.args.labels.now 0 c.index-labels-0.result (omega arith) c.index-labels-0.is in (
      c.weight-x.ensures.value ∙ ap (λ v. cond v 1 0 * 1) (c.colour.ensures ∙ ap K.colour b) ∙ sym (add-zero _),
      seen_none K F c.args.gate (one_hot_rows K c.args.material.now) E c.args.v.now _ _ (omega arith) b b,
      ran_none _ _ (g.met.H.LabelHash.fits _),
    )

pub loop-k-preserved : goal.loop-k-preserved
loop-k-preserved g c =
    let K = g.L.Label.kind in
    let F = g.H.LabelHash.means c.args.h.now in
    let labels = c.args.labels.now in
    let E = places K labels in
    let R = one_hot_rows K c.args.material.now in
    let n = length labels in
    let k = c.loop-k.k in
    let j : ℕ = k + 1 in
    let inv = c.loop-k.invariant in
    let r = c.grow_around.ensures in
    let s = shifted j n (omega arith) (omega arith) in
    let q : 2 ^ (j + 1) ≡ 2 ^ j + 2 ^ j = ap (λ k. 2 ^ k) (add-one j) ∙ two_pow j in
    let two = two_fit j (omega arith) in
    let more = more_than j in
    let eE : c.label-item.result ≡ E j = read_place K _ k c.label-item.result (omega arith) c.label-item.is ∙ part_at 1 (n - 1) labels k j K.zero (omega arith) (omega arith) in
    let row : c.get_row-row.result ≡ R j = c.get_row-row.ensures ∙ ap (row_at K c.args.material.now) (omega arith) in (
      colours_more K E j _ _ _ _ _ _ inv.0 s.is c.colour-in-loop-k.ensures eE c.weight-x-in-loop-k.ensures.value refl,
      seen_more K F c.args.gate _ R E j _ _ _ _ _ inv.2.kept (omega arith) s.is inv.0 (c.xor.ensures ∙ ap₂ K.xor row eE) inv.1 r.front,
      ran_then _ _ _ _ _ _ _ _ _ inv.2 r.ran (omega arith),
    )
