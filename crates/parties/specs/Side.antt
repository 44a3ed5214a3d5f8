-- What a side keeps of its circuit and of its way through it. Assumes nothing.
use Rattle.std.specs.Prelude.{ℕ, ◌+◌, ◌^◌, true, false, replicate, slice_set}
use Rattle.circuit.specs.declared.sizes.Sizes.{Sizes}
use Rattle.parties.specs.declared.side.Side.{Side}

-- a side that has not begun, or is wiped
abbrev pub unused : Side
unused = record {
  ended = true;
  sizes = record { inputs = 0; gates = 0; outputs = 0; operands = 0; rows = 0 };
  wires = 0;
  next = 0;
  made = 0;
  bytes = 0;
  marks = replicate 256 false;
}

-- a side at the start of a circuit of such sizes and so many wires
abbrev pub started : Sizes → ℕ → Side
started sizes wires = record {
  ended = false;
  sizes = sizes;
  wires = wires;
  next = 0;
  made = sizes.inputs;
  bytes = 0;
  marks = replicate 256 false;
}

module _ (s : Side) where
  -- an input more is encoded or delivered
  abbrev pub marked : ℕ → Side
  marked input = record {
    ended = s.ended;
    sizes = s.sizes;
    wires = s.wires;
    next = s.next;
    made = s.made;
    bytes = s.bytes;
    marks = slice_set s.marks input true;
  }

  -- one gate further, which made new wires and has material bytes
  abbrev pub stepped : ℕ → ℕ → Side
  stepped new bytes = record {
    ended = s.ended;
    sizes = s.sizes;
    wires = s.wires;
    next = s.next + 1;
    made = s.made + new;
    bytes = s.bytes + bytes;
    marks = s.marks;
  }

-- the most bytes that a gate's material has
abbrev pub most_bytes : ℕ
most_bytes = 2 ^ 20
