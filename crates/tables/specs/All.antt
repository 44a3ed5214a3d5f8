-- One statement over the three gates. Assumes nothing.
use Rattle.labels.specs.Kind.{Kind}
use Rattle.gates.specs.Xor as XorGate
use Rattle.gates.specs.Half as HalfGate
use Rattle.tables.specs.Gate as TableGate

-- Whoever holds, for each operand, the zero label with the offset ⊕ed in exactly when the operand's bit is 1
-- gets so the new wires' labels, for the bit that XOR, AND or the table's row gives.
pub record Sound {L : Type 0} (K : Kind L) : Type 0 where
  pub xor : XorGate.Sound K
  pub half : HalfGate.Sound K
  pub table : TableGate.Sound K
  -- and a table's written material reads back
  pub readable : TableGate.Readable K
