use Rattle.std.proofs.Common.{◌≡◌, ℕ, ◌+◌, refl, ap, ◌∙◌, subst, arith}
use Rattle.hashes.specs.Draws.{input_zero}
use Rattle.tables.proofs.Running.{ran_none, ran_then, ran_for}
use Rattle.wires.specs.Wires.{Filled}
use Rattle.memory.proofs.Starting.{next}
use Rattle.memory.proofs.start.draw_inputs.Goals as goal

pub push-requires : goal.push-requires
push-requires g c = let i = c.loop-i.invariant in let l = i.1.long in omega arith

pub loop-i-init : goal.loop-i-init
loop-i-init g c = (
  c.requires.unmade,
  record { long = refl; front = λ w d h. absurd (omega arith); past = λ w d h. refl },
  refl,
  ran_none _ _ (g.met.H.LabelHash.fits _),
)

pub loop-i-preserved : goal.loop-i-preserved
loop-i-preserved g c =
    let i = c.loop-i.invariant in
    let F = g.H.LabelHash.means c.args.h.now in
    let r = c.draw-zero.ensures in
    let here : c.draw-zero.result ≡ input_zero F c.args.seed c.loop-i.i =
    r.answer ∙ ap (λ (G : g.row.L.Denot → ℕ → g.row.L.Denot). input_zero G c.args.seed c.from.result) i.3.kept ∙ ap (input_zero F c.args.seed) c.from.ensures in (
      (c.push.ensures.made ∙ ap (λ (n : ℕ). n + 1) i.0),
      next c.loop-i.i _ (input_zero F c.args.seed) _ _ _ _ i.0 here i.1 c.push.ensures.grown,
      (c.push.ensures.same ∙ i.2),
      ran_then _ _ _ _ _ _ _ 1 _ i.3 (record { kept = r.kept; count = r.count }) refl,
    )

pub returns : goal.returns
returns g c =
    let i = c.loop-i.invariant in
    let e : c.loop-i.i ≡ c.args.inputs = omega arith in
    let r = ran_for _ _ _ _ _ _ i.3 e in
    record {
      filled = subst (λ (n : ℕ). Filled n (input_zero (g.H.LabelHash.means c.args.h.now) c.args.seed) c.args.wires.now.values.now c.loop-i.wires.values.now) e i.1;
      same = i.2;
      kept = r.kept;
      count = r.count;
    }
