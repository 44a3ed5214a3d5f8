use Rattle.std.proofs.Common.{◌≡◌, ◌+◌, ◌^◌, suc, ap, ◌∙◌, add-one, arith, pow_pos, pow_mono, length-set}
use Rattle.std.proofs.lemmas.Nat.{one_shl}
use Rattle.tables.proofs.Masks.{shifted}
use Rattle.labels.proofs.Numbers.{two_pow}
use Rattle.tables.proofs.Mixing.{level_mix, mix_none, mix_more}
use Rattle.tables.proofs.random.mix_levels.Goals as goal

pub bounds-fs-0 : goal.bounds-fs-0
bounds-fs-0 c = let p = pow_pos c.args.n in omega arith

pub add_level-requires : goal.add_level-requires
add_level-requires c =
    let l = c.loop-l.l in
    let n = c.args.n in
    let s = shifted l n (omega arith) (omega arith) in
    let two = two_pow l in
    let up = pow_mono {i = suc l} {j = n} (omega arith) in
    let few = pow_mono {i = suc l} {j = 8} (omega arith) in
    let e = c.loop-l.auto.fs ∙ length-set c.args.fs.now 0 c.args.s in
    record { few = omega arith; numbers = omega arith; room = omega arith }

pub loop-l-init : goal.loop-l-init
loop-l-init c = let p = pow_pos c.args.n in mix_none c.args.s c.args.nums.now c.args.fs.now (omega arith)

pub loop-l-preserved : goal.loop-l-preserved
loop-l-preserved c =
    let l = c.loop-l.l in
    mix_more c.args.s l (l + 1) _ c.args.nums.now c.loop-l.fs c.add_level.new.fs (one_shl l 64 (omega arith)) (add-one l) c.loop-l.invariant c.add_level.ensures.lower c.add_level.ensures.upper

pub returns : goal.returns
returns c = let q : c.loop-l.l ≡ c.args.n = omega arith in λ i h. (let e : 2 ^ c.loop-l.l ≡ 2 ^ c.args.n = ap (λ k. 2 ^ k) q in c.loop-l.invariant i (omega arith)) ∙ ap (λ k. level_mix c.args.s c.args.nums.now k i) q
