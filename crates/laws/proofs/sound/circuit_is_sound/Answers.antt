use Rattle.circuit.specs.Parts.{parts_of}
use Rattle.laws.proofs.Order.{ordered_check}
use Rattle.laws.proofs.Sounds.{circuit_sound}
use Rattle.laws.proofs.sound.circuit_is_sound.Goals as goal

pub returns : goal.returns
returns g c bytes passes F seed colour x w h = circuit_sound g.L.Label.kind F seed (parts_of bytes) (ordered_check bytes passes) colour x w h
