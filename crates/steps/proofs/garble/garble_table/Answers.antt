use Rattle.std.proofs.Common.{ℕ, List, ◌∙◌, ap₂}
use Rattle.tables.specs.Gate.{material_for, zeros_for}
use Rattle.tables.proofs.Packing.{length_listed}
use Rattle.steps.proofs.Lent.{lent_long, lent_grown}
use Rattle.steps.proofs.garble.garble_table.Goals as goal

pub returns-clause-grown : goal.returns-clause-grown
returns-clause-grown g c =
    let K = g.L.Label.kind in
    let F = g.H.LabelHash.means c.args.h.now in
    let l = lent_long K c.args.wires.now.made c.args.m c.args.wires.now.values.now c.requires.room in
    let news = c.garble.ensures.news ∙ ap₂ (λ (xs : List g.row.L.Denot) (k : ℕ). zeros_for K F c.args.gate c.args.secrets.seed c.args.secrets.offset xs c.args.rows.now k) c.read_operands.ensures l in
    lent_grown K _ c.args.m _ c.requires.room _ _ news (length_listed _ c.args.m)

pub returns-clause-material : goal.returns-clause-material
returns-clause-material g c =
    let K = g.L.Label.kind in
    let F = g.H.LabelHash.means c.args.h.now in
    let l = lent_long K c.args.wires.now.made c.args.m c.args.wires.now.values.now c.requires.room in
    c.garble.ensures.material ∙ ap₂ (λ (xs : List g.row.L.Denot) (k : ℕ). material_for K F c.args.gate c.args.secrets.seed c.args.secrets.offset xs c.args.rows.now k) c.read_operands.ensures l
