use Rattle.std.proofs.Common.{rules}
use Rattle.gates.proofs.Halves.{meets}
use Rattle.gates.proofs.half.evaluate.Goals as goal

pub returns-clause-meets : goal.returns-clause-meets
returns-clause-meets g c = meets g.L.Label.kind (g.H.LabelHash.means c.args.h.now) c.args.gate _ _ _ _ _ (search rules)
