use Rattle.tables.proofs.Gating.{sound}
use Rattle.tables.proofs.gate.gates_stand.Goals as goal

pub returns : goal.returns
returns g c = sound g.L.Label.kind
