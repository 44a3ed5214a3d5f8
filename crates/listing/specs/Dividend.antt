-- A joint dividend: two ticket counts of 7 bits go in, and a number of 16 bits comes out. Assumes nothing.
use Rattle.std.specs.Prelude.{◌≡◌, ℕ, zero, suc, ◌+◌, ◌*◌, ◌≤◌, not, Bool, List, [], ◌∷◌, ◌++◌, codes, decimal, Option, ◌==◌, nat_eq, slice_index}
use Rattle.labels.specs.Longs.{long}
use Rattle.labels.specs.Numbers.{bit, digit, number}
use Rattle.labels.specs.declared.long.Long.{Long}
use Rattle.hashes.specs.AesHash.{aes_hash}
use Rattle.circuit.specs.Parts.{parts_of}
use Rattle.circuit.specs.Gates.{wires_in, output_of}
use Rattle.circuit.specs.Check.{most_wires, circuit_refusal, bytes_in}
use Rattle.circuit.specs.Refusals.{first_of, or_else}
use Rattle.circuit.specs.declared.refusal.Refusal.{Refusal}
use Rattle.circuit.specs.declared.refusal.Refusal.TheVariants.{Memory}
use Rattle.plain.specs.Plain.{bit_in, plain_bit, Evaluated}
use Rattle.settlement.specs.declared.call.Call.{Call}
use Rattle.settlement.specs.declared.line.Line.{Line}
use Rattle.exchange.specs.Course.{calls_in, course, course_line}
use Rattle.exchange.specs.Planned.{whole_refusal}
use Rattle.listing.specs.Lines.{out_line, text_unless}
use Rattle.listing.specs.Calls.{call_lines}

-- the n low bits of a number as bytes, the lowest first
abbrev pub low_bits : ℕ → ℕ → List ℕ
low_bits zero a = []
low_bits (suc n) a = low_bits n a ++ (digit (bit n a) ∷ [])

-- the input bits of two counts
abbrev pub count_bits : ℕ → ℕ → List ℕ
count_bits first second = low_bits 7 first ++ low_bits 7 second

-- the counts were evaluated in the clear on w wires, and the outputs' bits are the dividend
pub record Settled (bytes : List ℕ) (first second : ℕ) (old new : List Bool) (outputs : List ℕ) (w dividend : ℕ) : Type 0 where
  pub evaluated : Evaluated bytes (count_bits first second) old new outputs
  pub count : w ≡ wires_in (parts_of bytes)
  pub few : w ≤ most_wires
  pub dividend_is : dividend ≡ number 16 (λ o. nat_eq (slice_index outputs o) 1)

abbrev pub tickets_line : ℕ → ℕ → List ℕ
tickets_line first second = codes "tickets " ++ (decimal first ++ (codes " " ++ (decimal second ++ codes "\n")))

-- how long the material is
abbrev pub size_line : ℕ → List ℕ
size_line bytes = codes "material " ++ (decimal bytes ++ codes " bytes\n")

-- both counts of hash calls, the garbler's first
abbrev pub counts_line : ℕ → ℕ → List ℕ
counts_line garbler evaluator = codes "counts " ++ (decimal garbler ++ (codes " " ++ (decimal evaluator ++ codes "\n")))

abbrev pub dividend_line : ℕ → List ℕ
dividend_line d = codes "dividend " ++ (decimal d ++ codes "\n")

-- what is printed of a settlement: the counts of tickets, its calls, its material, the counts of hash calls, and the dividend
abbrev pub settled_text : ℕ → ℕ → (ℕ → Call) → (ℕ → Line Long) → ℕ → ℕ → ℕ → ℕ → (ℕ → ℕ) → ℕ → List ℕ
settled_text first second calls lines n bytes garbler evaluator out dividend =
    tickets_line first second
    ++ (call_lines calls lines n
    ++ (size_line bytes
    ++ (counts_line garbler evaluator
    ++ (out_line out 16
    ++ dividend_line dividend))))

-- the circuit passes and has sixteen outputs
abbrev pub sixteen_refusal : List ℕ → Option Refusal
sixteen_refusal bytes = or_else (circuit_refusal bytes) (first_of ((not ((parts_of bytes).sizes.outputs == 16), Memory) ∷ []))

-- what settle prints for a circuit, a seed and two counts
module _ (bytes seed : List ℕ) (first second : ℕ) where
  abbrev pub dividend_refusal : Option Refusal
  dividend_refusal = or_else (sixteen_refusal bytes) (whole_refusal long aes_hash bytes seed (count_bits first second))

  -- call k and its line, by the rules
  abbrev pub call_by : ℕ → Call
  call_by = course (parts_of bytes).sizes (bytes_in long (parts_of bytes) (parts_of bytes).sizes.gates) (count_bits first second)

  abbrev pub line_by : ℕ → Line Long
  line_by = course_line long aes_hash (long.from seed) (parts_of bytes) (count_bits first second)

  -- the plain bit of an output
  abbrev pub out_bit : ℕ → Bool
  out_bit o = plain_bit (parts_of bytes) (bit_in (count_bits first second)) (output_of (parts_of bytes) o)

  -- the line of the last call
  abbrev pub last_line : Line Long
  last_line = line_by (2 * (parts_of bytes).sizes.inputs + 2 * (parts_of bytes).sizes.gates + (1 + (parts_of bytes).sizes.outputs))

  abbrev pub settle_lines : List ℕ
  settle_lines =
      settled_text first second call_by line_by (calls_in (parts_of bytes).sizes)
      (bytes_in long (parts_of bytes) (parts_of bytes).sizes.gates) last_line.garbler_count last_line.evaluator_count
      (λ o. digit (out_bit o)) (number 16 out_bit)

  abbrev pub settle_text : List ℕ
  settle_text = text_unless dividend_refusal settle_lines
