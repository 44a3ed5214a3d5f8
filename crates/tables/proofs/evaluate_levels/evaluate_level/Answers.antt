use Rattle.std.proofs.Common.{◌≡◌, ℕ, ◌+◌, ◌-◌, ◌*◌, ◌%◌, ◌^◌, cond, length, get_or, sym, ap, ap₂, ◌∙◌, arith, refl}
use Rattle.std.proofs.lemmas.Nat.{one_shl}
use Rattle.gates.specs.Tweak.{tweak}
use Rattle.labels.specs.Kind.{times}
use Rattle.labels.specs.Lists.{places}
use Rattle.tables.specs.Table.{masked}
use Rattle.tables.proofs.Filling.{holds_more, past_set}
use Rattle.tables.proofs.Growing.{read_place}
use Rattle.tables.proofs.Masks.{level_twice, masked_part, rows_counted}
use Rattle.tables.proofs.Parts.{part_at}
use Rattle.tables.proofs.Running.{ran_then}
use Rattle.tables.proofs.evaluate_levels.evaluate_level.Goals as goal

pub overflow_add-level : goal.overflow_add-level
overflow_add-level g c =
    let K = g.L.Label.kind in
    let f = rows_counted (c.args.level.row + length c.args.new.now) K.width K.width_least in
    omega arith

pub loop-j-preserved : goal.loop-j-preserved
loop-j-preserved g c =
    let K = g.L.Label.kind in
    let F = g.H.LabelHash.means c.args.h.now in
    let N : ℕ → ℕ = λ i. get_or c.args.nums.now i 0 in
    let V = places K c.args.v.now in
    let key = c.args.level.key in
    let b = K.colour key in
    let eb = c.colour-b.ensures in
    let l = c.args.level.l in
    let w : ℕ = 2 ^ (l - 1) in
    let start = c.weight-start.result in
    let j = c.loop-j.j in
    let inv = c.loop-j.invariant in
    let ew : 1 * 2 ^ (l - 1) % 2 ^ 64 ≡ 2 ^ (l - 1) = one_shl (l - 1) 64 (omega arith) in
    let two = level_twice l (omega arith) in
    let es : start ≡ cond b 1 0 * w = c.weight-start.ensures.value ∙ ap₂ (λ v n. cond v 1 0 * n) eb ew in
    let z : c.mask-part.result ≡ masked K F c.args.level.gate l w N key b V j =
    masked_part K F _ c.args.level.gate l w _ N N key key b V _ j _ inv.2.kept (omega arith) refl (λ i h. refl)
    (λ i h. part_at start _ c.args.v.now i _ K.zero (omega arith) (ap (λ n. n + i) (sym es)))
    (c.mask-part.ensures.answer ∙ ap (λ x. K.xor x (g.H.LabelHash.means c.loop-j.h key (tweak c.args.level.gate (512 + 16 * l + j)))) (c.choose.ensures j (omega arith))) in
    let n = sym c.index-new-j.is ∙ read_place K c.loop-j.new j c.index-new-j.result (omega arith) c.index-new-j.is ∙ inv.1 j (omega arith) in (
      holds_more K _ _ _ _ _ inv.0 (omega arith) (c.xor.ensures ∙ ap₂ K.xor n (c.unmasked.ensures ∙ ap₂ K.xor z (ap₂ (times K) eb c.get_row-row.ensures))) refl,
      past_set K _ _ _ _ _ _ inv.1 (omega arith) (omega arith),
      ran_then _ _ _ _ _ _ _ _ _ inv.2 c.mask-part.ensures.ran (omega arith),
    )
