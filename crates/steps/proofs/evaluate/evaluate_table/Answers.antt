use Rattle.std.proofs.Common.{◌≡◌, ◌/◌, length, ap, ◌∙◌}
use Rattle.tables.specs.Gate.{evaluated}
use Rattle.labels.specs.Lists.{places}
use Rattle.tables.proofs.Packing.{length_listed}
use Rattle.steps.proofs.Lent.{lent_long, lent_grown}
use Rattle.steps.proofs.evaluate.evaluate_table.Goals as goal

pub returns-clause-grown : goal.returns-clause-grown
returns-clause-grown g c =
    let K = g.L.Label.kind in
    let F = g.H.LabelHash.means c.args.h.now in
    let l = lent_long K c.args.wires.now.made c.args.m c.args.wires.now.values.now c.requires.room in
    let e = c.read_operands.ensures in
    let n : length c.read_operands.new.out ≡ length c.args.operands.now / 2 = ap length e ∙ length_listed _ (length c.args.operands.now / 2) in
    let news = c.evaluate.ensures.news ∙ (λ i. evaluated K F c.args.gate (n i) (l i) c.args.material.now (places K (e i))) in
    lent_grown K _ c.args.m _ c.requires.room _ _ news (length_listed _ c.args.m)
