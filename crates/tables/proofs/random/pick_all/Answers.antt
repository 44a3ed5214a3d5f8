use Rattle.std.proofs.Common.{◌≡◌, ℕ, ◌+◌, ◌-◌, ◌*◌, ◌%◌, ◌^◌, length, sym, refl, ap, ◌∙◌, add-one, arith, pow_pos}
use borrow.Rule.Slice.PartMut.{put_mid}
use Rattle.std.proofs.lemmas.Nat.{one_shl}
use Rattle.tables.specs.Level.{bases}
use Rattle.tables.specs.Table.{based}
use Rattle.tables.proofs.Givens.{numbered_more}
use Rattle.tables.proofs.Growing.{read_place}
use Rattle.tables.proofs.Hot.{next_fits}
use Rattle.labels.proofs.Numbers.{two_pow}
use Rattle.tables.proofs.Parts.{part_long, mid_long}
use Rattle.tables.proofs.Running.{ran_then}
use Rattle.tables.proofs.random.pick_all.Goals as goal

pub slice_bounds-pick-end : goal.slice_bounds-pick-end
slice_bounds-pick-end g c =
    let p = c.loop-p.p in
    let w : (1 * 2 ^ p) % 2 ^ 64 ≡ 2 ^ p = one_shl p 64 (omega arith) in
    let f = next_fits p (length c.args.zeros.now) (omega arith) in
    omega arith

pub slice_bounds-pick-end-in-loop-p : goal.slice_bounds-pick-end-in-loop-p
slice_bounds-pick-end-in-loop-p g c =
    let p = c.loop-p.p in
    let w : (1 * 2 ^ p) % 2 ^ 64 ≡ 2 ^ p = one_shl p 64 (omega arith) in
    let f = next_fits p (length c.args.zeros.now) (omega arith) in
    omega arith

pub loop-p-preserved : goal.loop-p-preserved
loop-p-preserved g c =
    let K = g.L.Label.kind in
    let F = g.H.LabelHash.means c.args.h.now in
    let B = bases K c.args.offset c.args.zeros.now in
    let n = length c.args.zeros.now in
    let p = c.loop-p.p in
    let u : ℕ = 1 * 2 ^ p % 2 ^ 64 in
    let a = c.loop-p.nums in
    let inv = c.loop-p.invariant in
    let w : 1 * 2 ^ p % 2 ^ 64 ≡ 2 ^ p = one_shl p 64 (omega arith) in
    let f = next_fits p n (omega arith) in
    let q : 2 ^ (p + 1) ≡ 2 ^ p + 2 ^ p = ap (λ k. 2 ^ k) (add-one p) ∙ two_pow p in
    let pos = pow_pos p in
    let b : c.base-key0.result ≡ B p = c.base-key0.ensures ∙ ap (based K c.args.offset) (read_place K c.args.zeros.now p c.index-zeros-p.result (omega arith) c.index-zeros-p.is) in
    let k₀ = b ∙ sym (K.right (B p)) in
    let k₁ = c.xor-key1.ensures ∙ ap (λ k. K.xor k c.args.offset) b in
    let one = c.pick.ensures in
    let two = c.pick-in-loop-p.ensures in
    let la : length a ≡ length c.args.nums.now = omega arith in
    let s = part_long (2 * u) (3 * u - 2 * u) a (omega arith) in
    let ls = mid_long (2 * u) (3 * u - 2 * u) a c.pick.new.nums (omega arith) (c.pick.auto.nums ∙ s) in
    let t = part_long (3 * u) (4 * u - 3 * u) (put_mid (2 * u) (3 * u - 2 * u) a c.pick.new.nums) (omega arith) in (
      numbered_more K F _ _ c.args.gate c.args.m p u _ _ c.args.offset _ _ B a _ _ inv.1.kept (one.ran.kept ∙ inv.1.kept) w k₀ k₁ (omega arith) inv.0
          (s ∙ omega arith) c.pick.auto.nums one.there (t ∙ omega arith) c.pick-in-loop-p.auto.nums two.there,
      ran_then _ _ _ _ _ _ _ _ _ inv.1 (ran_then _ _ _ _ _ _ _ _ _ one.ran two.ran refl) (omega arith),
    )
