-- The worksheet: its input, its first refusal and its text. Assumes nothing.
use Rattle.std.specs.Prelude.{ℕ, ◌+◌, ◌*◌, List, ◌++◌, length, take, drop, Option, slice_index}
use Rattle.labels.specs.Numbers.{digit}
use Rattle.labels.specs.Papers.{paper}
use Rattle.labels.specs.declared.paper.Paper.{Paper}
use Rattle.hashes.specs.Draws.{offset}
use Rattle.hashes.specs.PaperHash.{paper_hash}
use Rattle.circuit.specs.Refusals.{or_else}
use Rattle.circuit.specs.Header.{sizes_of, words_in}
use Rattle.circuit.specs.Parts.{parts_of}
use Rattle.circuit.specs.Gates.{output_of, wires_in}
use Rattle.circuit.specs.Check.{length_refusal}
use Rattle.circuit.specs.declared.refusal.Refusal.{Refusal}
use Rattle.plain.specs.Plain.{bit_in, plain_bit}
use Rattle.steps.specs.Whole.{zero_label, label, material_before}
use Rattle.exchange.specs.Planned.{whole_refusal}
use Rattle.listing.specs.Lines.{out_line, text_unless}
use Rattle.listing.specs.Sheet.{offset_line, label_lines, material_line}

-- what is shown of a circuit, a seed and input bits, under the paper hash
module _ (bytes seed bits : List ℕ) where
  abbrev pub sheet_zero : ℕ → Paper
  sheet_zero w = zero_label paper paper_hash (paper.from seed) (parts_of bytes) w

  abbrev pub sheet_label : ℕ → Paper
  sheet_label w = label paper paper_hash (paper.from seed) (parts_of bytes) (bit_in bits) w

  abbrev pub all_material : List ℕ
  all_material = material_before paper paper_hash (paper.from seed) (parts_of bytes) (parts_of bytes).sizes.gates

  -- the offset, a line for each wire, the material, and the output bits
  abbrev pub sheet_of : List ℕ
  sheet_of =
      offset_line (offset paper_hash (paper.from seed) paper)
      ++ (label_lines sheet_zero sheet_label (plain_bit (parts_of bytes) (bit_in bits)) (wires_in (parts_of bytes))
      ++ (material_line (λ k. slice_index all_material k) (length all_material)
      ++ out_line (λ o. digit (plain_bit (parts_of bytes) (bit_in bits) (output_of (parts_of bytes) o))) (parts_of bytes).sizes.outputs))

module _ (input : List ℕ) where
  -- the circuit ends where its sizes say; two seed bytes and a byte for each input follow
  abbrev pub circuit_end : ℕ
  circuit_end = 2 * words_in (sizes_of input)

  abbrev pub circuit_in : List ℕ
  circuit_in = take circuit_end input

  abbrev pub seed_in : List ℕ
  seed_in = take 2 (drop circuit_end input)

  abbrev pub bits_from : List ℕ
  bits_from = drop (circuit_end + 2) input

  -- the input as a whole, by its sizes and its length
  unfoldable pub sheet_refusal : Option Refusal
  sheet_refusal = length_refusal input (circuit_end + 2 + (sizes_of input).inputs)

  -- then the circuit, then the bits, and then the seed
  abbrev pub worksheet_refusal : Option Refusal
  worksheet_refusal = or_else sheet_refusal (whole_refusal paper paper_hash circuit_in seed_in bits_from)

  abbrev pub worksheet_text : List ℕ
  worksheet_text = text_unless worksheet_refusal (sheet_of circuit_in seed_in bits_from)
