use Rattle.gates.proofs.Halves.{xor_meets}
use Rattle.gates.proofs.xor.step.Goals as goal

pub returns-clause-meets : goal.returns-clause-meets
returns-clause-meets g c = xor_meets g.L.Label.kind _ _ _ c.xor.ensures
