-- The gates of a circuit: their operands and rows, and the wires made before them. Assumes nothing.
use Rattle.std.specs.Prelude.{ℕ, ◌+◌, ◌^◌, Bool, not, ◌&&◌, ◌||◌, nat_le, nat_lt}
use Rattle.labels.specs.Words.{word_at}
use Rattle.circuit.specs.Words.{all_below, sum_below}
use Rattle.circuit.specs.Forms.{fan_in, fan_out, reads, makes, operand_words}
use Rattle.circuit.specs.Parts.{Parts}

module _ (c : Parts) where
  abbrev pub form_of : ℕ → ℕ
  form_of g = word_at c.forms g

  -- where the gate's operands begin, among the operand words
  abbrev pub place_of : ℕ → ℕ
  place_of g = word_at c.places g

  -- operand j: an input wire, or behind a table's input wires the place of its first row
  abbrev pub operand_of : ℕ → ℕ → ℕ
  operand_of g j = word_at c.operands (place_of g + j)

  -- of a table: where its rows begin, among the row words
  abbrev pub rows_from : ℕ → ℕ
  rows_from g = operand_of g (fan_in (form_of g))

  abbrev pub row_of : ℕ → ℕ → ℕ
  row_of g i = word_at c.rows (rows_from g + i)

  abbrev pub output_of : ℕ → ℕ
  output_of o = word_at c.outputs o

  -- the wires made before gate g: the inputs, and those of the gates below g
  abbrev pub made_before : ℕ → ℕ
  made_before g = c.sizes.inputs + sum_below (λ k. makes (form_of k)) g

  -- all wires
  abbrev pub wires_in : ℕ
  wires_in = made_before c.sizes.gates

  -- operands or rows run past their arrays
  abbrev pub past_arrays : ℕ → Bool
  past_arrays g =
      nat_lt c.sizes.operands (place_of g + operand_words (form_of g))
      || (not (nat_le (form_of g) 1) && nat_lt c.sizes.rows (rows_from g + 2 ^ fan_in (form_of g)))

  -- each wire that the gate reads is made before it
  abbrev pub in_order : ℕ → Bool
  in_order g = all_below (operand_of g) (reads (form_of g)) (made_before g)

  -- of a table: each row is below 2^m
  abbrev pub rows_fit : ℕ → Bool
  rows_fit g = nat_le (form_of g) 1 || all_below (row_of g) (2 ^ fan_in (form_of g)) (2 ^ fan_out (form_of g))
