use Rattle.std.proofs.Common.{◌≡◌, ℕ, suc, ◌+◌, ◌-◌, ◌^◌, length, sym, ap, ◌∙◌, inl, inr, add-one, arith, length-set}
use Rattle.std.proofs.lemmas.Bool.{cases_eq}
use Rattle.tables.specs.Level.{bases}
use Rattle.tables.specs.Material.{row_bytes}
use Rattle.tables.specs.Table.{based, hot_row}
use Rattle.tables.proofs.Growing.{read_place}
use Rattle.tables.proofs.Hot.{two_fit, next_fits, hot_none, hot_more, row_more}
use Rattle.tables.proofs.Masks.{shifted}
use Rattle.labels.proofs.Numbers.{two_pow}
use Rattle.tables.proofs.Parts.{part_at}
use Rattle.tables.proofs.Running.{ran_none, ran_then}
use Rattle.tables.proofs.one_hot.garble_one_hot.Goals as goal

pub bounds-v-1 : goal.bounds-v-1
bounds-v-1 g c = let p = two_fit (length c.args.zeros.now) (omega arith) in simp length-set (omega arith)

pub grow-all-requires-clause-room : goal.grow-all-requires-clause-room
grow-all-requires-clause-room g c =
    let j : ℕ = c.loop-k.k + 1 in
    let n = length c.args.zeros.now in
    let s = shifted j n (omega arith) (omega arith) in
    let p = next_fits j n (omega arith) in
    let e : length c.loop-k.v ≡ length c.args.v.now = c.loop-k.auto.v ∙ simp length-set in
    omega arith

pub loop-k-init : goal.loop-k-init
loop-k-init g c =
    let K = g.L.Label.kind in
    let F = g.H.LabelHash.means c.args.h.now in
    let Δ = c.args.offset in
    let B = bases K Δ c.args.zeros.now in
    let two = two_fit (length c.args.zeros.now) (omega arith) in
    let b : c.base-first.result ≡ B 0 = c.base-first.ensures ∙ ap (based K Δ) (read_place K c.args.zeros.now 0 c.index-zeros-0.result (omega arith) c.index-zeros-0.is) in
    (hot_none K F c.args.gate Δ B c.args.v.now _ _ (omega arith) (c.xor.ensures ∙ ap (λ y. K.xor y Δ) b) b, (λ k l. absurd (omega arith)), ran_none _ _ (g.met.H.LabelHash.fits _))

pub loop-k-preserved : goal.loop-k-preserved
loop-k-preserved g c =
    let K = g.L.Label.kind in
    let F = g.H.LabelHash.means c.args.h.now in
    let Δ = c.args.offset in
    let zeros = c.args.zeros.now in
    let B = bases K Δ zeros in
    let n = length zeros in
    let k = c.loop-k.k in
    let j : ℕ = k + 1 in
    let inv = c.loop-k.invariant in
    let r = c.grow-all.ensures in
    let s = shifted j n (omega arith) (omega arith) in
    let q : 2 ^ (j + 1) ≡ 2 ^ j + 2 ^ j = ap (λ k. 2 ^ k) (add-one j) ∙ two_pow j in
    let two = two_fit j (omega arith) in
    let b : c.base.result ≡ B j =
    c.base.ensures ∙ ap (based K Δ) (read_place K _ k c.zero-item.result (omega arith) c.zero-item.is ∙ part_at 1 (n - 1) zeros k j K.zero (omega arith) (omega arith)) in
    let row : c.xor-in-loop-k.result ≡ hot_row K F c.args.gate Δ B (suc k) = row_more K F c.args.gate _ Δ B j _ k _ _ _ _ inv.2.kept s.is (omega arith) inv.0 r.answer b c.xor-in-loop-k.ensures in (
      hot_more K _ _ _ Δ B j _ _ _ inv.2.kept (omega arith) s.is inv.0 r.front,
      (λ i l. elim (cases_eq i k) [
        | inl e ↦ ap (λ x. row_bytes K x c.put_row.new.material) e ∙ c.put_row.ensures.here ∙ ap K.bytes row ∙ ap (λ x. K.bytes (hot_row K F c.args.gate Δ B (suc x))) (sym e)
        | inr e ↦ c.put_row.ensures.others i e ∙ inv.1 i (omega arith)
      ]),
      ran_then _ _ _ _ _ _ _ _ _ inv.2 r.ran (omega arith),
    )
