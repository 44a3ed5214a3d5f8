use Rattle.gates.proofs.Halves.{xor_sound}
use Rattle.gates.proofs.xor.xor_gate_stands.Goals as goal

pub returns : goal.returns
returns g c = xor_sound g.L.Label.kind
