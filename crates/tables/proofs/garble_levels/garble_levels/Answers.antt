use Rattle.std.proofs.Common.{◌≡◌, ℕ, suc, ◌+◌, ◌-◌, ◌*◌, ◌%◌, ◌^◌, ◌<◌, true, false, length, get_or, take, drop, refl, ap, ◌∙◌, ap₂, sym, inl, inr, arith}
use Rattle.std.proofs.lemmas.Bool.{cases_lt}
use Rattle.std.proofs.lemmas.List.{length-take-le}
use Rattle.tables.specs.Level.{bases}
use Rattle.labels.specs.Lists.{places}
use Rattle.tables.specs.Table.{based, given as part, mask_row}
use Rattle.tables.specs.Material.{row_bytes}
use Rattle.tables.proofs.Givens.{given_level}
use Rattle.tables.proofs.Growing.{read_place}
use Rattle.tables.proofs.Masks.{next_row, rows_within, rows_fit, rows_counted, halved_front, sum_onto, shifted}
use Rattle.tables.proofs.Parts.{part_at, front_at}
use Rattle.tables.proofs.Running.{ran_then}
use Rattle.tables.proofs.garble_levels.garble_levels.Goals as goal

pub slice_bounds-garble_level-end : goal.slice_bounds-garble_level-end
slice_bounds-garble_level-end g c =
    let s = shifted c.level_after-l.result (length c.args.zeros.now) (omega arith) (omega arith) in
    omega arith

pub slice_bounds-v-end : goal.slice_bounds-v-end
slice_bounds-v-end g c =
    let s = shifted c.level_after-l.result (length c.args.zeros.now) (omega arith) (omega arith) in
    omega arith

pub slice_bounds-v-end-in-loop-d : goal.slice_bounds-v-end-in-loop-d
slice_bounds-v-end-in-loop-d g c =
    let s = shifted c.level_after-l.result (length c.args.zeros.now) (omega arith) (omega arith) in
    sym (length-take-le _ c.loop-d.v (omega arith))

pub overflow_add-level : goal.overflow_add-level
overflow_add-level g c =
    let K = g.L.Label.kind in
    let n = length c.args.zeros.now in
    let m = length c.args.new.now in
    let r = rows_within c.loop-d.d n m (omega arith) in
    let f = rows_counted ((length c.args.zeros.now - 1) + n * m) K.width K.width_least in
    omega arith

pub garble_level-requires-clause-labels : goal.garble_level-requires-clause-labels
garble_level-requires-clause-labels g c =
    let s = shifted c.level_after-l.result (length c.args.zeros.now) (omega arith) (omega arith) in
    length-take-le _ c.loop-d.v (omega arith) ∙ s.is

pub garble_level-requires-clause-room : goal.garble_level-requires-clause-room
garble_level-requires-clause-room g c =
    let w = g.L.Label.kind.width in
    let m = length c.args.new.now in
    let fit = rows_fit (length c.args.zeros.now - 1) c.loop-d.d (length c.args.zeros.now) m w (omega arith) in
    let same : ((length c.args.zeros.now - 1) + c.loop-d.d * m + length c.loop-d.new) * w ≡ ((length c.args.zeros.now - 1) + (c.loop-d.d * m + m)) * w = ap (λ k. k * w) (omega arith) in
    omega arith

pub loop-d-preserved : goal.loop-d-preserved
loop-d-preserved g c =
    let K = g.L.Label.kind in
    let F = g.H.LabelHash.means c.args.h.now in
    let G = g.H.LabelHash.means c.loop-d.h in
    let gate = c.args.gate in
    let Δ = c.args.offset in
    let zeros = c.args.zeros.now in
    let nums = c.args.nums.now in
    let v = c.loop-d.v in
    let B = bases K Δ zeros in
    let V = places K c.args.v.now in
    let m = length c.args.new.now in
    let n = length zeros in
    let d = c.loop-d.d in
    let l = c.level_after-l.result in
    let p : ℕ = 1 * 2 ^ l % 2 ^ 64 in
    let inv = c.loop-d.invariant in
    let row = next_row d m in
    let el : l ≡ n - d = omega arith in
    let s = shifted l n (omega arith) (omega arith) in
    let ep : p ≡ 2 ^ (n - d) = s.is ∙ ap (λ k. 2 ^ k) el in
    let base : c.base-key.result ≡ B (n - suc d) =
    let q : l - 1 ≡ n - suc d = omega arith in c.base-key.ensures ∙ ap (based K Δ) (read_place K zeros (l - 1) c.index-zeros-l.result (omega arith) c.index-zeros-l.is) ∙ ap B q in
    let N : ℕ → ℕ = λ i. get_or (take (p + p - p) (drop p nums)) i 0 in
    let W = places K (take p v) in
    let eN : (i : ℕ) → i < 2 ^ l → N i ≡ get_or nums (2 ^ l + i) 0 = λ i h. part_at p (p + p - p) nums i (2 ^ l + i) 0 (omega arith) (omega arith) in
    let eW : (i : ℕ) → i < 2 ^ l → W i ≡ places K v i = λ i h. front_at p v i i K.zero (omega arith) refl in
    let z : (j : ℕ) → _ ≡ part K F gate m n Δ B V d false j = λ j. given_level K F G gate m n d l Δ _ B V nums v N W false j (omega arith) el inv.4.kept base c.requires.there inv.0 eN eW in
    let o : (j : ℕ) → _ ≡ part K F gate m n Δ B V d true j = λ j. given_level K F G gate m n d l Δ _ B V nums v N W true j (omega arith) el inv.4.kept base c.requires.there inv.0 eN eW in (
      halved_front K n d p V v c.halve.new.v (omega arith) ep (omega arith) c.halve.auto.v inv.0 c.halve.ensures,
      (λ j l. sum_onto K d (λ e. part K F gate m n Δ B V e false j) _ _ _ _ (inv.1 j l) (z j) (c.garble_level.ensures.news j (omega arith))),
      (λ k l j h. elim (cases_lt k d) [
        | inl b ↦ (let r = rows_within k d m b in c.garble_level.ensures.before ((length c.args.zeros.now - 1) + (k * m + j)) (omega arith) ∙ inv.2 k b j h)
        | inr b ↦ (let q : k ≡ d = omega arith in
            let p : (length c.args.zeros.now - 1) + (k * m + j) ≡ (length c.args.zeros.now - 1) + d * m + j = ap (λ x. (length c.args.zeros.now - 1) + (x * m + j)) q ∙ omega arith in
            ap (λ i. row_bytes K i c.garble_level.new.material) p ∙ c.garble_level.ensures.row j (omega arith) ∙ ap K.bytes (ap₂ K.xor (z j) (o j) ∙ ap (λ x. mask_row K F gate m n Δ B V x j) (sym q)))
      ]),
      (λ i l. c.garble_level.ensures.before i (omega arith) ∙ inv.3 i l),
      ran_then _ _ _ _ _ _ _ _ _ inv.4 c.garble_level.ensures.ran (omega arith),
    )
