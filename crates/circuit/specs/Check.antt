-- What check answers of any bytes: the first refusal, or the sizes, wires and material. Assumes nothing.
use Rattle.std.specs.Prelude.{ℕ, zero, suc, ◌*◌, not, List, [], ◌∷◌, length, None, Option, Result, ◌==◌, nat_lt}
use Rattle.labels.specs.Kind.{Kind}
use Rattle.circuit.specs.Refusals.{first_of, or_else, refused_or}
use Rattle.circuit.specs.Words.{all_below, sum_below}
use Rattle.circuit.specs.Header.{sizes_of, within, words_in}
use Rattle.circuit.specs.Parts.{Parts, parts_of}
use Rattle.circuit.specs.Forms.{known}
use Rattle.circuit.specs.Gates.{form_of, past_arrays, in_order, rows_fit, output_of, made_before, wires_in}
use Rattle.circuit.specs.Material.{gate_bits, gate_bytes}
use Rattle.circuit.specs.declared.refusal.Refusal.{Refusal}
use Rattle.circuit.specs.declared.refusal.Refusal.TheVariants.{Short, Size, Length, UnknownForm, PastArray, TooManyWires, NotMade, WideRow}
use Rattle.circuit.specs.declared.sizes.Checked.{Checked}

-- the most wires that a circuit may have
abbrev pub most_wires : ℕ
most_wires = 1024

-- under 10 bytes, a size outside its limits, or another length than this one
abbrev pub length_refusal : List ℕ → ℕ → Option Refusal
length_refusal bytes long =
    first_of ((nat_lt (length bytes) 10, Short)
    ∷ (not (within (sizes_of bytes)), Size)
    ∷ (not (length bytes == long), Length)
    ∷ [])

abbrev pub size_refusal : List ℕ → Option Refusal
size_refusal bytes = length_refusal bytes (2 * words_in (sizes_of bytes))

module _ (c : Parts) where
  -- of a gate: its form, and the places of its operands and rows
  unfoldable pub shape_refusal : ℕ → Option Refusal
  shape_refusal g =
      first_of ((not (known (form_of c g)), UnknownForm g)
      ∷ (past_arrays c g, PastArray g)
      ∷ [])

  -- then its wires and the values of its rows
  unfoldable pub wires_refusal : ℕ → Option Refusal
  wires_refusal g =
      first_of ((nat_lt most_wires (made_before c (suc g)), TooManyWires g)
      ∷ (not (in_order c g), NotMade g)
      ∷ (not (rows_fit c g), WideRow g)
      ∷ [])

  abbrev pub gate_refusal : ℕ → Option Refusal
  gate_refusal g = or_else (shape_refusal g) (wires_refusal g)

  -- of the gates below g
  abbrev pub gates_refusal : ℕ → Option Refusal
  gates_refusal zero = None
  gates_refusal (suc g) = or_else (gates_refusal g) (gate_refusal g)

  -- of the output list, whose gate number is the gate count
  abbrev pub list_refusal : Option Refusal
  list_refusal = first_of ((not (all_below (output_of c) c.sizes.outputs (wires_in c)), NotMade c.sizes.gates) ∷ [])

-- the first refusal of a circuit, if any
unfoldable pub circuit_refusal : List ℕ → Option Refusal
circuit_refusal bytes =
    or_else (size_refusal bytes)
    (or_else (gates_refusal (parts_of bytes) (sizes_of bytes).gates)
    (list_refusal (parts_of bytes)))

module _ {L : Type 0} (K : Kind L) (c : Parts) where
  abbrev pub bits_in : ℕ → ℕ
  bits_in g = sum_below (λ k. gate_bits (8 * K.width) (form_of c k)) g

  abbrev pub bytes_in : ℕ → ℕ
  bytes_in g = sum_below (λ k. gate_bytes (8 * K.width) (form_of c k)) g

  abbrev pub totals : Checked
  totals = record {
    sizes = c.sizes;
    wires = wires_in c;
    bits = bits_in c.sizes.gates;
    bytes = bytes_in c.sizes.gates;
  }

abbrev pub checked : {L : Type 0} → Kind L → List ℕ → Result Checked Refusal
checked K bytes = refused_or (circuit_refusal bytes) (totals K (parts_of bytes))
