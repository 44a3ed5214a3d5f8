use Rattle.std.proofs.Common.{◌≡◌, ℕ, ◌+◌, ◌-◌, ◌*◌, ◌%◌, ◌^◌, true, false, length, get_or, sym, refl, ap, ◌∙◌, ap₂, inl, inr, arith}
use Rattle.std.proofs.lemmas.Bool.{cases_eq}
use Rattle.std.proofs.lemmas.Nat.{one_shl}
use Rattle.std.proofs.lemmas.List.{length-take-le}
use Rattle.gates.specs.Tweak.{tweak}
use Rattle.tables.specs.Material.{row_bytes}
use Rattle.labels.specs.Lists.{places}
use Rattle.tables.specs.Table.{level}
use Rattle.tables.proofs.Filling.{holds_more, past_set}
use Rattle.tables.proofs.Growing.{read_place}
use Rattle.tables.proofs.Masks.{level_twice, masked_part, rows_counted}
use Rattle.tables.proofs.Parts.{part_at, part_long, front_at}
use Rattle.tables.proofs.Running.{ran_then}
use Rattle.tables.proofs.garble_levels.garble_level.Goals as goal

pub overflow_add-level : goal.overflow_add-level
overflow_add-level g c =
    let K = g.L.Label.kind in
    let f = rows_counted (c.args.level.row + length c.args.new.now) K.width K.width_least in
    omega arith

pub loop-j-preserved : goal.loop-j-preserved
loop-j-preserved g c =
    let K = g.L.Label.kind in
    let F = g.H.LabelHash.means c.args.h.now in
    let N : ℕ → ℕ = λ i. get_or c.args.nums.now i 0 in
    let V = places K c.args.v.now in
    let l = c.args.level.l in
    let w : ℕ = 2 ^ (l - 1) in
    let p : ℕ = 1 * 2 ^ (l - 1) % 2 ^ 64 in
    let ew : 1 * 2 ^ (l - 1) % 2 ^ 64 ≡ 2 ^ (l - 1) = one_shl (l - 1) 64 (omega arith) in
    let two = level_twice l (omega arith) in
    let zero : ℕ → g.row.L.Denot = level K F c.args.level.gate l w c.args.offset c.args.level.key N V false in
    let one : ℕ → g.row.L.Denot = level K F c.args.level.gate l w c.args.offset c.args.level.key N V true in
    let j = c.loop-j.j in
    let inv = c.loop-j.invariant in
    let k₀ = sym (K.right c.args.level.key) in
    let z : c.mask-zero.result ≡ zero j =
    masked_part K F _ c.args.level.gate l w _ (λ i. N (0 * w + i)) _ _ _ false V _ j _ inv.4.kept (length-take-le p c.args.v.now (omega arith) ∙ ew) k₀
    (λ i h. front_at p c.args.nums.now i _ 0 (omega arith) (omega arith)) (λ i h. front_at p c.args.v.now i _ K.zero (omega arith) (omega arith))
    (c.mask-zero.ensures.answer ∙ ap (λ x. K.xor x (g.H.LabelHash.means c.loop-j.h c.args.level.key (tweak c.args.level.gate (512 + 16 * l + j)))) (c.choose.ensures j (omega arith))) in
    let o : c.mask-one.result ≡ one j =
    masked_part K F _ c.args.level.gate l w _ (λ i. N (1 * w + i)) _ _ _ true V _ j _ (c.mask-zero.ensures.ran.kept ∙ inv.4.kept) (part_long p (length c.args.v.now - p) c.args.v.now (omega arith) ∙ omega arith) c.xor-key1.ensures
    (λ i h. part_at p _ c.args.nums.now i _ 0 (omega arith) (omega arith)) (λ i h. part_at p _ c.args.v.now i _ K.zero (omega arith) (omega arith))
    (c.mask-one.ensures.answer ∙ ap (λ x. K.xor x (g.H.LabelHash.means c.mask-zero.new.h c.xor-key1.result (tweak c.args.level.gate (512 + 16 * l + j)))) (c.choose-2.ensures j (omega arith))) in
    let n = sym c.index-new-j.is ∙ read_place K c.loop-j.new j c.index-new-j.result (omega arith) c.index-new-j.is ∙ inv.1 j (omega arith) in (
      holds_more K _ _ _ _ _ inv.0 (omega arith) (c.xor-in-loop-j.ensures ∙ ap₂ K.xor n z) refl,
      past_set K _ _ _ _ _ _ inv.1 (omega arith) (omega arith),
      (λ k l. elim (cases_eq k j) [
        | inl q ↦ ap (λ i. row_bytes K (c.args.level.row + i) c.put_row.new.material) q ∙ c.put_row.ensures.here ∙ ap K.bytes (c.xor.ensures ∙ ap₂ K.xor z o) ∙ ap (λ i. K.bytes (K.xor (zero i) (one i))) (sym q)
        | inr q ↦ c.put_row.ensures.others (c.args.level.row + k) (λ r. q (omega arith)) ∙ inv.2 k (omega arith)
      ]),
      (λ i l. c.put_row.ensures.others i (omega arith) ∙ inv.3 i l),
      ran_then _ _ _ _ _ _ _ _ _ inv.4 (ran_then _ _ _ _ _ _ _ _ 2 c.mask-zero.ensures.ran c.mask-one.ensures.ran refl) (omega arith),
    )
