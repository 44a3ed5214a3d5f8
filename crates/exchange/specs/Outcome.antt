-- What both sides hold after a whole settlement: all of it by the rules. Assumes nothing.
use Rattle.std.specs.Prelude.{◌≡◌, ℕ, ◌<◌, List, length, slice_index}
use Rattle.labels.specs.Kind.{Kind}
use Rattle.labels.specs.Numbers.{digit}
use Rattle.circuit.specs.Parts.{Parts}
use Rattle.circuit.specs.Gates.{output_of, wires_in}
use Rattle.plain.specs.Plain.{bit_in, plain_bit}
use Rattle.steps.specs.Whole.{zero_label, label, material_before}
use Rattle.labels.specs.Lists.{places}
use Rattle.settlement.specs.Lines.{line_at}
use Rattle.settlement.specs.declared.lent.Lent.{Lent}
use Rattle.settlement.specs.declared.line.Line.{Line}
use Rattle.exchange.specs.Course.{calls_in, course_line}

module _ {L : Type 0} (K : Kind L) (F : L → ℕ → L) (seed : L) (c : Parts) (bits : List ℕ) where
  -- the wire memories, the material, the output bits, the colours shown, and a line for each call
  pub record Outcome (lent : Lent L) (lines : List (Line L)) : Type 0 where
    pub zeros_are : (w : ℕ) → w < wires_in c → places K lent.zeros.now w ≡ zero_label K F seed c w
    pub labels_are : (w : ℕ) → w < wires_in c → places K lent.labels.now w ≡ label K F seed c (bit_in bits) w
    pub material_is : lent.material.now ≡ material_before K F seed c c.sizes.gates
    pub outputs_are : (o : ℕ) → o < c.sizes.outputs → slice_index lent.outputs.now o ≡ digit (plain_bit c (bit_in bits) (output_of c o))
    pub colours_are : (o : ℕ) → o < c.sizes.outputs → slice_index lent.colours.now o ≡ digit (K.colour (zero_label K F seed c (output_of c o)))
    pub lines_are : (k : ℕ) → k < calls_in c.sizes → line_at lines k ≡ course_line K F seed c bits k
    pub zeros_long : length lent.zeros.now ≡ wires_in c
    pub labels_long : length lent.labels.now ≡ wires_in c
    pub outputs_long : length lent.outputs.now ≡ c.sizes.outputs
