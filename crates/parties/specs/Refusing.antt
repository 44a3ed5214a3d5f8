-- The first refusal of each call, place by place: circuit, turn, memory, number, secret. Assumes nothing.
-- A call is told whether it is its turn; the lengths are those of the memories lent.
use Rattle.std.specs.Prelude.{ℕ, ◌+◌, ◌*◌, Bool, not, ◌&&◌, ◌||◌, List, [], ◌∷◌, length, Option, ◌==◌, nat_le, nat_lt, slice_index}
use Rattle.labels.specs.Kind.{Kind}
use Rattle.hashes.specs.Draws.{offset}
use Rattle.circuit.specs.Words.{all_below}
use Rattle.circuit.specs.Parts.{parts_of}
use Rattle.circuit.specs.Gates.{form_of, output_of, wires_in}
use Rattle.circuit.specs.Material.{gate_bytes}
use Rattle.circuit.specs.Check.{circuit_refusal}
use Rattle.circuit.specs.Refusals.{first_of, or_else}
use Rattle.circuit.specs.declared.refusal.Refusal.{Refusal}
use Rattle.circuit.specs.declared.refusal.Refusal.TheVariants.{Turn, Memory, Material, Number, Bit, Again, ZeroSeed, Colourless, Foreign}
use Rattle.labels.specs.Lists.{places}
use Rattle.memory.specs.Seed.{blank}
use Rattle.parties.specs.declared.side.Side.{Side}
use Rattle.parties.specs.declared.state.EvaluatorCall.TheVariants.{Join, Deliver, Evaluate, Decode, Wipe}
use Rattle.parties.specs.Marks.{is_marked}
use Rattle.parties.specs.Turns.{is_its, gates_left}
use Rattle.parties.specs.States.{state_of, allowed}

-- a side begins with a circuit: open and join
abbrev pub begin_refusal : List ℕ → Bool → ℕ → Option Refusal
begin_refusal bytes turn wires =
    or_else (circuit_refusal bytes)
    (first_of ((not turn, Turn)
    ∷ (nat_lt wires (wires_in (parts_of bytes)), Memory)
    ∷ []))

-- a label is neither that of 0 nor that of 1 on a wire with the zero label z
abbrev pub is_foreign : {L : Type 0} → Kind L → L → L → L → Bool
is_foreign K Δ z label = not (K.same label z || K.same label (K.xor z Δ))

module _ (s : Side) (bytes : List ℕ) where
  -- a side goes on with its own circuit
  abbrev pub turn_refusal : Bool → Option Refusal
  turn_refusal turn = or_else (circuit_refusal bytes) (first_of ((not (turn && is_its s (parts_of bytes)), Turn) ∷ []))

  -- the next gate: garble and evaluate
  abbrev pub step_refusal : {L : Type 0} → Kind L → Bool → ℕ → ℕ → ℕ → Option Refusal
  step_refusal K turn wires scratch material =
      or_else (turn_refusal turn)
      (first_of ((nat_lt wires (wires_in (parts_of bytes)) || nat_lt scratch 256, Memory)
      ∷ (nat_lt material (s.bytes + gate_bytes (8 * K.width) (form_of (parts_of bytes) s.next)), Material)
      ∷ []))

  -- an input: encode, and deliver, whose bit is 0
  abbrev pub input_refusal : Bool → ℕ → ℕ → ℕ → Option Refusal
  input_refusal turn wires input bit =
      or_else (turn_refusal turn)
      (first_of ((nat_lt wires (wires_in (parts_of bytes)), Memory)
      ∷ (nat_le s.sizes.inputs input, Number)
      ∷ (nat_lt 1 bit, Bit)
      ∷ (is_marked s.marks input, Again)
      ∷ []))

  -- the outputs, of which there are so many colours: colours and decode
  abbrev pub outputs_refusal : Bool → ℕ → ℕ → Option Refusal
  outputs_refusal turn wires colours =
      or_else (turn_refusal turn)
      (first_of ((nat_lt wires (wires_in (parts_of bytes)) || not (colours == s.sizes.outputs), Memory) ∷ []))

  -- one output: certify
  abbrev pub output_refusal : Bool → ℕ → ℕ → Option Refusal
  output_refusal turn wires output =
      or_else (turn_refusal turn)
      (first_of ((nat_lt wires (wires_in (parts_of bytes)), Memory)
      ∷ (nat_le s.sizes.outputs output, Number)
      ∷ []))

  -- the garbler's calls
  module _ {L : Type 0} (K : Kind L) where
    -- before the hash is called
    abbrev pub seed_refusal : ℕ → List ℕ → Option Refusal
    seed_refusal wires seed =
        or_else (begin_refusal bytes s.ended wires)
        (first_of ((not (length seed == K.width), Memory)
        ∷ (blank seed, ZeroSeed)
        ∷ []))

    abbrev pub open_refusal : (L → ℕ → L) → ℕ → List ℕ → Option Refusal
    open_refusal F wires seed =
        or_else (seed_refusal wires seed)
        (first_of ((not (K.colour (offset F (K.from seed) K)), Colourless) ∷ []))

    abbrev pub garble_refusal : ℕ → ℕ → ℕ → Option Refusal
    garble_refusal wires scratch material = step_refusal K (not s.ended && gates_left s) wires scratch material

    abbrev pub certify_refusal : L → List L → ℕ → L → Option Refusal
    certify_refusal Δ wires output label =
        or_else (output_refusal (not s.ended && not (gates_left s)) (length wires) output)
        (first_of ((is_foreign K Δ (places K wires (output_of (parts_of bytes) output)) label, Foreign) ∷ []))

  abbrev pub encode_refusal : ℕ → ℕ → ℕ → Option Refusal
  encode_refusal wires input bit = input_refusal (not s.ended) wires input bit

  abbrev pub colours_refusal : ℕ → ℕ → Option Refusal
  colours_refusal wires colours = outputs_refusal (not s.ended && not (gates_left s)) wires colours

  -- the evaluator's calls
  abbrev pub join_refusal : ℕ → Option Refusal
  join_refusal wires = begin_refusal bytes (allowed (state_of s) Join) wires

  abbrev pub deliver_refusal : ℕ → ℕ → Option Refusal
  deliver_refusal wires input = input_refusal (allowed (state_of s) Deliver) wires input 0

  abbrev pub evaluate_refusal : {L : Type 0} → Kind L → ℕ → ℕ → ℕ → Option Refusal
  evaluate_refusal K wires scratch material = step_refusal K (allowed (state_of s) Evaluate) wires scratch material

  abbrev pub decode_refusal : ℕ → List ℕ → ℕ → Option Refusal
  decode_refusal wires colours outputs =
      or_else (outputs_refusal (allowed (state_of s) Decode) wires (length colours))
      (first_of ((not (outputs == s.sizes.outputs), Memory)
      ∷ (not (all_below (λ i. slice_index colours i) (length colours) 2), Bit)
      ∷ []))

-- wipe takes no circuit
abbrev pub wipe_refusal : Side → Bool → ℕ → Option Refusal
wipe_refusal s turn wires =
    first_of ((not turn, Turn)
    ∷ (nat_lt wires s.wires, Memory)
    ∷ [])

abbrev pub garbler_wipe_refusal : Side → ℕ → Option Refusal
garbler_wipe_refusal s wires = wipe_refusal s (not s.ended) wires

abbrev pub evaluator_wipe_refusal : Side → ℕ → Option Refusal
evaluator_wipe_refusal s wires = wipe_refusal s (allowed (state_of s) Wipe) wires
