use Rattle.circuit.specs.Parts.{parts_of}
use Rattle.laws.proofs.Order.{ordered_check}
use Rattle.laws.proofs.Sounds.{gate_sound}
use Rattle.laws.proofs.sound.gate_is_sound.Goals as goal

pub returns : goal.returns
returns g c bytes passes gate there F seed Δ colour z u x held j k = gate_sound g.L.Label.kind F seed Δ (parts_of bytes) gate (ordered_check bytes passes) there colour z u x held j k
