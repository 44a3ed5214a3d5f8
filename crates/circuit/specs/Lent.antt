-- Arrays and gates of the code, as parts of a circuit. Assumes nothing.
use Rattle.std.specs.Prelude.{◌≡◌, ℕ, ◌+◌, ◌*◌, ◌/◌, ◌^◌, ◌≤◌, Bool, true, List, length}
use Rattle.labels.specs.Words.{word_at}
use Rattle.circuit.specs.Words.{part, all_below}
use Rattle.circuit.specs.Parts.{Parts}
use Rattle.circuit.specs.Forms.{is_table, fan_in, fan_out}
use Rattle.circuit.specs.Gates.{form_of, place_of, rows_from}
use Rattle.circuit.specs.declared.sizes.Sizes.{Sizes}
use Rattle.circuit.specs.declared.arrays.Arrays.{Arrays}
use Rattle.circuit.specs.declared.gate.Gate.{Gate}
use Rattle.circuit.specs.declared.gate.Gate.TheVariants.{Xor, And, Table}

-- what the arrays hold
abbrev pub parts_in : Arrays → Parts
parts_in a = record {
  sizes = a.sizes;
  forms = a.forms.now;
  places = a.places.now;
  operands = a.operands.now;
  rows = a.rows.now;
  outputs = a.outputs.now;
}

-- the arrays are the parts of what stands behind the header, one after another
pub record Behind (s : Sizes) (rest : List ℕ) (a : Arrays) : Type 0 where
  pub long : length rest ≡ 2 * (2 * s.gates + s.operands + s.rows + s.outputs)
  pub sizes : a.sizes ≡ s
  pub forms : a.forms.now ≡ part 0 s.gates rest
  pub places : a.places.now ≡ part s.gates s.gates rest
  pub operands : a.operands.now ≡ part (2 * s.gates) s.operands rest
  pub rows : a.rows.now ≡ part (2 * s.gates + s.operands) s.rows rest
  pub outputs : a.outputs.now ≡ part (2 * s.gates + s.operands + s.rows) s.outputs rest

-- gate g of the circuit, with its operands and rows, none of them cut short
abbrev pub GateAt : Parts → ℕ → Gate → Type 0
GateAt c g (Xor operands) = (form_of c g ≡ 0) × (operands.now ≡ part (place_of c g) 2 c.operands) × (length operands.now ≡ 4)
GateAt c g (And operands) = (form_of c g ≡ 1) × (operands.now ≡ part (place_of c g) 2 c.operands) × (length operands.now ≡ 4)
GateAt c g (Table n m operands rows) =
    (is_table (form_of c g) ≡ true) × (n ≡ fan_in (form_of c g)) × (m ≡ fan_out (form_of c g))
    × (operands.now ≡ part (place_of c g) n c.operands) × (length operands.now ≡ 2 * n)
    × (rows.now ≡ part (rows_from c g) (2 ^ n) c.rows) × (length rows.now ≡ 2 * 2 ^ n)

-- the wires that a gate makes, and the bytes of those that it reads
abbrev pub new_in : Gate → ℕ
new_in (Xor operands) = 1
new_in (And operands) = 1
new_in (Table n m operands rows) = m

abbrev pub operands_in : Gate → List ℕ
operands_in (Xor operands) = operands.now
operands_in (And operands) = operands.now
operands_in (Table n m operands rows) = operands.now

-- whether each row of a gate is below 2^m
abbrev pub narrow : Gate → Bool
narrow (Xor operands) = true
narrow (And operands) = true
narrow (Table n m operands rows) = all_below (word_at rows.now) (length rows.now / 2) (2 ^ m)

-- a gate's parts are as long as its form says
abbrev pub Shaped : Gate → Type 0
Shaped (Xor operands) = length operands.now ≡ 4
Shaped (And operands) = length operands.now ≡ 4
Shaped (Table n m operands rows) = (n ≤ 8) × (m ≤ 16) × (length operands.now ≡ 2 * n) × (length rows.now ≡ 2 * 2 ^ n)
