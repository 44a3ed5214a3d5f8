-- Plain evaluation: the bit on each wire, and what a plain run is. Assumes nothing.
use Rattle.std.specs.Prelude.{◌≡◌, ℕ, ◌+◌, ◌<◌, Bool, false, not, ◌&&◌, ◌||◌, List, [], ◌∷◌, length, get_or, None, Option, ◌==◌, nat_lt, slice_index, slice_index_or}
use Rattle.labels.specs.Kind.{differs}
use Rattle.labels.specs.Numbers.{bit, digit, number}
use Rattle.labels.specs.Words.{word_at}
use Rattle.circuit.specs.Refusals.{first_of, or_else}
use Rattle.circuit.specs.Words.{all_below}
use Rattle.circuit.specs.Parts.{Parts, parts_of}
use Rattle.circuit.specs.Forms.{fan_in, makes, by_form}
use Rattle.circuit.specs.Gates.{form_of, operand_of, row_of, output_of, made_before, wires_in}
use Rattle.circuit.specs.Check.{circuit_refusal}
use Rattle.wires.specs.Wires.{wire_after, Filled}
use Rattle.circuit.specs.declared.gate.Gate.{Gate}
use Rattle.circuit.specs.declared.gate.Gate.TheVariants.{Xor, And, Table}
use Rattle.circuit.specs.declared.refusal.Refusal.{Refusal}
use Rattle.circuit.specs.declared.refusal.Refusal.TheVariants.{Memory, Bit}

-- an input's bit, from its byte
abbrev pub bit_in : List ℕ → ℕ → Bool
bit_in bits i = slice_index bits i == 1

-- new wire j of a gate of the code, from the bits x on the wires that it reads
abbrev pub new_bit : Gate → (ℕ → Bool) → ℕ → Bool
new_bit (Xor operands) x j = differs (x 0) (x 1)
new_bit (And operands) x j = x 0 && x 1
new_bit (Table n m operands rows) x j = bit j (word_at rows.now (number n x))

module _ (c : Parts) where
  -- new wire j of gate g, from the bits x on the wires that it reads:
  -- XOR, AND, or bit j of the row whose number they are
  unfoldable pub gate_bit : ℕ → (ℕ → Bool) → ℕ → Bool
  gate_bit g x j =
      by_form (form_of c g) (differs (x 0) (x 1)) (x 0 && x 1) (bit j (row_of c g (number (fan_in (form_of c g)) x)))

  abbrev pub plain_rule : ℕ → (ℕ → Bool) → ℕ → Bool
  plain_rule g v j = gate_bit g (λ i. v (operand_of c g i)) j

  -- the bit on wire w, from the inputs' bits
  abbrev pub plain_bit : (ℕ → Bool) → ℕ → Bool
  plain_bit x w = wire_after (made_before c) plain_rule x c.sizes.gates w

  -- a plain run, by what it leaves in the wire memory and the outputs
  pub record PlainRun (bits : List ℕ) (wires : List Bool) (outputs : List ℕ) : Type 0 where
    pub inputs : (i : ℕ) → i < c.sizes.inputs → slice_index_or wires i false ≡ bit_in bits i
    pub gates : (g j : ℕ) → g < c.sizes.gates → j < makes (form_of c g)
        → slice_index_or wires (made_before c g + j) false ≡ gate_bit g (λ i. get_or wires (operand_of c g i) false) j
    pub outs : (o : ℕ) → o < c.sizes.outputs → slice_index outputs o ≡ digit (slice_index_or wires (output_of c o) false)

-- the first refusal of a plain evaluation, from the lengths of the memories lent
abbrev pub plain_refusal : List ℕ → List ℕ → ℕ → ℕ → Option Refusal
plain_refusal bytes bits wires outputs =
    or_else (circuit_refusal bytes)
    (first_of ((
      nat_lt wires (wires_in (parts_of bytes))
          || (not (length bits == (parts_of bytes).sizes.inputs) || not (outputs == (parts_of bytes).sizes.outputs)),
      Memory,
    )
    ∷ (not (all_below (λ i. slice_index bits i) (length bits) 2), Bit)
    ∷ []))

-- the same with as much memory as the circuit asks for: of the circuit and the bits alone
abbrev pub bits_refusal : List ℕ → List ℕ → Option Refusal
bits_refusal bytes bits = plain_refusal bytes bits (wires_in (parts_of bytes)) (parts_of bytes).sizes.outputs

-- an accepted evaluation: the bits of the definition on the wires and in the outputs, and so a plain run
pub record Evaluated (bytes bits : List ℕ) (old new : List Bool) (outputs : List ℕ) : Type 0 where
  pub accepted : plain_refusal bytes bits (length old) (length outputs) ≡ None
  pub wires : Filled (wires_in (parts_of bytes)) (plain_bit (parts_of bytes) (bit_in bits)) old new
  pub outs : (o : ℕ) → o < (parts_of bytes).sizes.outputs → slice_index outputs o ≡ digit (plain_bit (parts_of bytes) (bit_in bits) (output_of (parts_of bytes) o))
  pub run : PlainRun (parts_of bytes) bits new outputs
