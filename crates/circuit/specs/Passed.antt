-- A circuit that passed, as the code holds it. Assumes nothing.
use Rattle.std.specs.Prelude.{◌≡◌, ℕ, ◌≤◌, List, None}
use Rattle.circuit.specs.Check.{circuit_refusal, most_wires}
use Rattle.circuit.specs.Gates.{wires_in}
use Rattle.circuit.specs.Parts.{Parts, Whole, parts_of}

-- no refusal, the arrays of these bytes, each whole, as many wires, and limits that calls ask for
pub record Passed (bytes : List ℕ) (c : Parts) (wires : ℕ) : Type 0 where
  pub passes : circuit_refusal bytes ≡ None
  pub parts : c ≡ parts_of bytes
  pub whole : Whole c
  pub count : wires ≡ wires_in c
  pub few : wires ≤ most_wires
  pub inputs : c.sizes.inputs ≤ 256
  pub gates : c.sizes.gates ≤ 512
