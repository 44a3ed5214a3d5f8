-- Whether a circuit handed in is the side's own, and whether gates are left. Assumes nothing.
use Rattle.std.specs.Prelude.{◌≡◌, ℕ, Bool, ◌&&◌, ◌==◌, nat_lt}
use Rattle.circuit.specs.Parts.{Parts}
use Rattle.circuit.specs.Gates.{made_before, wires_in}
use Rattle.circuit.specs.declared.sizes.Sizes.{Sizes}
use Rattle.parties.specs.declared.side.Side.{Side}

abbrev pub same_sizes : Sizes → Sizes → Bool
same_sizes a b =
    (a.inputs == b.inputs)
    && (a.gates == b.gates
    && (a.outputs == b.outputs
    && (a.operands == b.operands
    && a.rows == b.rows)))

-- its sizes, its wires and those before the next gate are the side's
unfoldable pub is_its : Side → Parts → Bool
is_its s c = same_sizes s.sizes c.sizes && (s.wires == wires_in c && s.made == made_before c s.next)

abbrev pub gates_left : Side → Bool
gates_left s = nat_lt s.next s.sizes.gates

-- the same as facts, of a circuit of w wires
pub record Its (s : Side) (c : Parts) (w : ℕ) : Type 0 where
  pub sizes : s.sizes ≡ c.sizes
  pub wires : s.wires ≡ w
  pub made : s.made ≡ made_before c s.next
