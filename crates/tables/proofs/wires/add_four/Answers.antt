use Rattle.std.proofs.Common.{ap, ◌+◌, ◌*◌, refl, ◌∙◌, arith}
use Rattle.tables.proofs.Buckets.{added_none, added_more}
use Rattle.tables.proofs.wires.add_four.Goals as goal

pub loop-g-init : goal.loop-g-init
loop-g-init g c = added_none g.L.Label.kind c.args.n c.args.x c.args.buckets.now

pub loop-g-preserved : goal.loop-g-preserved
loop-g-preserved g c =
    let i = c.loop-g.g in
    added_more g.L.Label.kind i (i + 1) c.args.n _ c.args.x c.args.buckets.now c.loop-g.buckets _ (c.loop-g.auto.buckets ∙ c.requires) (omega arith) (ap (λ k. 16 * i + k) c.from-k.ensures) c.add_to.ensures refl c.loop-g.invariant

pub returns : goal.returns
returns g c = λ i l. c.loop-g.invariant.done i l (omega arith)
