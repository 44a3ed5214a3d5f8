-- What a decision hands to the action behind it. Assumes nothing.
use Rattle.std.specs.Prelude.{◌≡◌, ℕ, ◌+◌, ◌*◌, ◌^◌, ◌<◌, ◌≤◌, true, List, length}
use Rattle.labels.specs.Kind.{Kind}
use Rattle.labels.specs.Words.{word_at}
use Rattle.circuit.specs.Words.{all_below}
use Rattle.circuit.specs.Parts.{Parts, parts_of}
use Rattle.circuit.specs.Gates.{form_of, made_before, wires_in}
use Rattle.circuit.specs.Check.{most_wires}
use Rattle.circuit.specs.Material.{gate_bits, gate_bytes}
use Rattle.parties.specs.declared.side.Side.{Side}

-- the side's next gate can be made on so many wires, with so much scratch and material
pub record StepReady {L : Type 0} (K : Kind L) (s : Side) (c : Parts) (bits wires scratch material : ℕ) : Type 0 where
  pub there : s.next < c.sizes.gates
  pub few : c.sizes.gates ≤ 512
  pub same : s.sizes.gates ≡ c.sizes.gates
  pub own : s.wires ≡ wires_in c
  pub made : s.made ≡ made_before c s.next
  pub most : wires_in c ≤ most_wires
  pub room : wires_in c ≤ wires
  pub scratch_room : 256 ≤ scratch
  pub bits_are : bits ≡ gate_bits (8 * K.width) (form_of c s.next)
  pub bits_few : bits ≤ 2 ^ 23
  pub material_room : s.bytes + gate_bytes (8 * K.width) (form_of c s.next) ≤ material

-- the outputs' wires are there, for so many colours
pub record OutputsReady (s : Side) (bytes list : List ℕ) (wires colours : ℕ) : Type 0 where
  pub list_is : list ≡ (parts_of bytes).outputs
  pub long : length list ≡ 2 * colours
  pub count : colours ≡ s.sizes.outputs
  pub order : all_below (word_at list) colours wires ≡ true
