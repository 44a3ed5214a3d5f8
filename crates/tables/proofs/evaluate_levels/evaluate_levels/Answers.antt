use Rattle.std.proofs.Common.{◌≡◌, ℕ, suc, ◌+◌, ◌-◌, ◌*◌, ◌%◌, ◌^◌, ◌<◌, length, get_or, take, refl, ap, ◌∙◌, sym, arith}
use Rattle.std.proofs.lemmas.List.{length-take-le}
use Rattle.labels.specs.Lists.{places}
use Rattle.tables.specs.Table.{taken}
use Rattle.tables.specs.Material.{row_at}
use Rattle.tables.proofs.Growing.{read_place}
use Rattle.tables.proofs.Masks.{twice_next, next_row, rows_within, rows_fit, rows_counted, halved_front, taken_level, sum_onto, shifted}
use Rattle.tables.proofs.Parts.{front_at, front_long}
use Rattle.tables.proofs.Running.{ran_then}
use Rattle.tables.proofs.evaluate_levels.evaluate_levels.Goals as goal

pub slice_bounds-v-end : goal.slice_bounds-v-end
slice_bounds-v-end g c =
    let s = shifted c.level_after-l.result (length c.args.labels.now) (omega arith) (omega arith) in
    omega arith

pub slice_bounds-v-end-in-loop-d : goal.slice_bounds-v-end-in-loop-d
slice_bounds-v-end-in-loop-d g c =
    let s = shifted c.level_after-l.result (length c.args.labels.now) (omega arith) (omega arith) in
    sym (length-take-le _ c.loop-d.v (omega arith))

pub overflow_add-level : goal.overflow_add-level
overflow_add-level g c =
    let K = g.L.Label.kind in
    let n = length c.args.labels.now in
    let m = length c.args.new.now in
    let r = rows_within c.loop-d.d n m (omega arith) in
    let f = rows_counted ((length c.args.labels.now - 1) + n * m) K.width K.width_least in
    omega arith

pub evaluate_then_halve-requires-clause-labels : goal.evaluate_then_halve-requires-clause-labels
evaluate_then_halve-requires-clause-labels g c =
    let s = shifted c.level_after-l.result (length c.args.labels.now) (omega arith) (omega arith) in
    length-take-le _ c.loop-d.v (omega arith) ∙ s.is

pub evaluate_then_halve-requires-clause-room : goal.evaluate_then_halve-requires-clause-room
evaluate_then_halve-requires-clause-room g c =
    let w = g.L.Label.kind.width in
    let m = length c.args.new.now in
    let fit = rows_fit (length c.args.labels.now - 1) c.loop-d.d (length c.args.labels.now) m w (omega arith) in
    let same : ((length c.args.labels.now - 1) + c.loop-d.d * m + length c.loop-d.new) * w ≡ ((length c.args.labels.now - 1) + (c.loop-d.d * m + m)) * w = ap (λ k. k * w) (omega arith) in
    omega arith

pub loop-d-preserved : goal.loop-d-preserved
loop-d-preserved g c =
    let K = g.L.Label.kind in
    let F = g.H.LabelHash.means c.args.h.now in
    let labels = c.args.labels.now in
    let v = c.loop-d.v in
    let E = places K labels in
    let V = places K c.args.v.now in
    let m = length c.args.new.now in
    let n = length labels in
    let d = c.loop-d.d in
    let l = c.level_after-l.result in
    let p : ℕ = 1 * 2 ^ l % 2 ^ 64 in
    let q : ℕ = 1 * 2 ^ (l - 1) % 2 ^ 64 in
    let inv = c.loop-d.invariant in
    let row = next_row d m in
    let two = twice_next n d (omega arith) in
    let el : l ≡ n - d = omega arith in
    let e : l - 1 ≡ n - suc d = omega arith in
    let s = shifted l n (omega arith) (omega arith) in
    let t = shifted (l - 1) 7 (omega arith) (omega arith) in
    let ep : p ≡ 2 ^ (n - d) = s.is ∙ ap (λ k. 2 ^ k) el in
    let eq : 2 ^ (l - 1) ≡ 2 ^ (n - suc d) = ap (λ k. 2 ^ k) e in
    let ed : 2 ^ (n - (d + 1)) ≡ 2 ^ (n - suc d) = let z : n - (d + 1) ≡ n - suc d = omega arith in ap (λ k. 2 ^ k) z in
    let u = length-take-le q c.loop-d.numbers (omega arith) in
    let key : c.index-labels-l.result ≡ E (n - suc d) = read_place K labels (l - 1) c.index-labels-l.result (omega arith) c.index-labels-l.is ∙ ap E e in
    let f = inv.3.kept in
    let N : ℕ → ℕ = λ i. get_or c.pick.new.nums i 0 in
    let W = places K (take p v) in
    let eW : (i : ℕ) → i < 2 ^ l → W i ≡ places K v i = λ i h. front_at p v i i K.zero (omega arith) refl in
    let rows : ℕ → g.row.L.Denot = row_at K c.args.material.now in (
      front_long q c.loop-d.numbers c.pick.new.nums c.pick.auto.nums ∙ inv.0,
      halved_front K n d p V v c.evaluate_then_halve.new.v (omega arith) ep (omega arith) c.evaluate_then_halve.auto.v inv.1 c.evaluate_then_halve.ensures.halved,
      (λ j h. sum_onto K d (λ e. taken K F c.args.gate m n (λ d j. rows ((length c.args.labels.now - 1) + (d * m + j))) E V e j) _ _ _ _ (inv.2 j h)
          (taken_level K F _ _ c.args.gate m n d l (length (take q c.loop-d.numbers)) (length c.args.labels.now - 1) E V c.index-labels-l.result v N W rows j (omega arith) el f (c.pick.ensures.ran.kept ∙ f)
          (u ∙ t.is) (λ i r. c.pick.ensures.there i (omega (arith, c.pick.auto.nums))) key inv.1 eW)
          (c.evaluate_then_halve.ensures.news j (omega arith))),
      ran_then _ _ _ _ _ _ _ _ _ inv.3 (ran_then _ _ _ _ _ _ _ _ _ c.pick.ensures.ran c.evaluate_then_halve.ensures.ran refl) (omega arith),
    )
