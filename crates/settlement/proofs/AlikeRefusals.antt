-- Circuits alike in all but the rows refuse alike. Assumes nothing.
use Rattle.std.proofs.Common.{◌≡◌, ℕ, ◌+◌, ◌*◌, Bool, not, ◌&&◌, ◌||◌, eqb, leb, ltb, List, [], ◌∷◌, length, replicate, slice_index, None, refl, sym, ap, ◌∙◌}
use Rattle.labels.specs.Kind.{Kind}
use Rattle.labels.specs.Words.{word_at}
use Rattle.circuit.specs.Words.{all_below}
use Rattle.circuit.specs.Parts.{Parts, parts_of}
use Rattle.circuit.specs.Gates.{form_of, wires_in}
use Rattle.circuit.specs.Material.{gate_bytes}
use Rattle.circuit.specs.Check.{circuit_refusal}
use Rattle.circuit.specs.Refusals.{first_of, or_else}
use Rattle.circuit.specs.declared.refusal.Refusal.TheVariants.{Turn, Memory, Material, Number, Bit, Again}
use Rattle.memory.specs.Copy.{open_copy}
use Rattle.laws.proofs.Opening.{parts_open, passes_open}
use Rattle.parties.specs.declared.side.Side.{Side}
use Rattle.parties.specs.Marks.{is_marked}
use Rattle.parties.specs.Turns.{is_its}
use Rattle.parties.specs.Refusing.{turn_refusal, step_refusal, input_refusal, output_refusal, outputs_refusal}
use Rattle.settlement.specs.Alike.{SameButRows}

abbrev with_rows : Parts → List ℕ → Parts
with_rows c rows = record {
  sizes = c.sizes;
  forms = c.forms;
  places = c.places;
  operands = c.operands;
  rows = rows;
  outputs = c.outputs;
}

but_rows : (c d : Parts) → SameButRows c d → d ≡ with_rows c d.rows
but_rows c d e = (λ i. record {
  sizes = e.sizes i;
  forms = e.forms i;
  places = e.places i;
  operands = e.operands i;
  rows = d.rows;
  outputs = e.outputs i;
})

its_rows : (s : Side) (c : Parts) (rows : List ℕ) → is_its s (with_rows c rows) ≡ is_its s c
unfolding is_its
its_rows s c rows = refl

-- what refusals read of a circuit
pub record SameTurns (r o : List ℕ) : Type 0 where
  pub passes : circuit_refusal o ≡ circuit_refusal r
  pub its : (s : Side) → is_its s (parts_of o) ≡ is_its s (parts_of r)
  pub wires : wires_in (parts_of o) ≡ wires_in (parts_of r)
  pub forms : (g : ℕ) → form_of (parts_of o) g ≡ form_of (parts_of r) g

module _ (r o : List ℕ) (r_passes : circuit_refusal r ≡ None) (o_passes : circuit_refusal o ≡ None) (same : SameButRows (parts_of r) (parts_of o)) where
  pub turns_same : SameTurns r o
  turns_same =
      let e = but_rows (parts_of r) (parts_of o) same in
      record {
        passes = o_passes ∙ sym r_passes;
        its = λ s. ap (is_its s) e ∙ its_rows s (parts_of r) (parts_of o).rows;
        wires = ap wires_in e;
        forms = λ g. ap (λ (fs : List ℕ). word_at fs g) same.forms;
      }

  -- and their open copies are alike in all
  pub copies_same : parts_of (open_copy o) ≡ parts_of (open_copy r)
  copies_same = parts_open o o_passes ∙ (λ i. record {
    sizes = same.sizes i;
    forms = same.forms i;
    places = same.places i;
    operands = same.operands i;
    rows = replicate (2 * (same.sizes i).rows) 0;
    outputs = same.outputs i;
  }) ∙ sym (parts_open r r_passes)

  pub copy_turns_same : SameTurns (open_copy r) (open_copy o)
  copy_turns_same = record {
    passes = passes_open o o_passes ∙ sym (passes_open r r_passes);
    its = λ s. ap (is_its s) copies_same;
    wires = ap wires_in copies_same;
    forms = λ g. ap (λ (c : Parts). form_of c g) copies_same;
  }

module _ (r o : List ℕ) (same : SameTurns r o) (s : Side) where
  turn_same : (turn : Bool) → turn_refusal s o turn ≡ turn_refusal s r turn
  turn_same turn = (λ i. or_else (same.passes i) (first_of ((not (turn && same.its s i), Turn) ∷ [])))

  pub step_same : {L : Type 0} (K : Kind L) (turn : Bool) (wires scratch material : ℕ) → step_refusal s o K turn wires scratch material ≡ step_refusal s r K turn wires scratch material
  step_same K turn wires scratch material =
      (λ i. or_else (turn_same turn i)
      (first_of ((ltb wires (same.wires i) || ltb scratch 256, Memory)
      ∷ (ltb material (s.bytes + gate_bytes (8 * K.width) (same.forms s.next i)), Material)
      ∷ [])))

  pub input_same : (turn : Bool) (wires input x y : ℕ) → ltb 1 y ≡ ltb 1 x → input_refusal s o turn wires input y ≡ input_refusal s r turn wires input x
  input_same turn wires input x y e =
      (λ i. or_else (turn_same turn i)
      (first_of ((ltb wires (same.wires i), Memory)
      ∷ (leb s.sizes.inputs input, Number)
      ∷ (e i, Bit)
      ∷ (is_marked s.marks input, Again)
      ∷ [])))

  pub output_same : (turn : Bool) (wires output : ℕ) → output_refusal s o turn wires output ≡ output_refusal s r turn wires output
  output_same turn wires output =
      (λ i. or_else (turn_same turn i)
      (first_of ((ltb wires (same.wires i), Memory)
      ∷ (leb s.sizes.outputs output, Number)
      ∷ [])))

  pub outputs_same : (turn : Bool) (wires colours : ℕ) → outputs_refusal s o turn wires colours ≡ outputs_refusal s r turn wires colours
  outputs_same turn wires colours =
      (λ i. or_else (turn_same turn i)
      (first_of ((ltb wires (same.wires i) || not (eqb colours s.sizes.outputs), Memory) ∷ [])))

  -- with colours that are bits, or not, alike
  pub decode_same : (turn : Bool) (wires outputs : ℕ) (xs ys : List ℕ) → length ys ≡ length xs → all_below (λ k. slice_index ys k) (length ys) 2 ≡ all_below (λ k. slice_index xs k) (length xs) 2
      → or_else (outputs_refusal s o turn wires (length ys)) (first_of ((not (eqb outputs s.sizes.outputs), Memory) ∷ (not (all_below (λ k. slice_index ys k) (length ys) 2), Bit) ∷ []))
      ≡ or_else (outputs_refusal s r turn wires (length xs)) (first_of ((not (eqb outputs s.sizes.outputs), Memory) ∷ (not (all_below (λ k. slice_index xs k) (length xs) 2), Bit) ∷ []))
  decode_same turn wires outputs xs ys long bits =
      let first : outputs_refusal s o turn wires (length ys) ≡ outputs_refusal s r turn wires (length xs) =
      outputs_same turn wires (length ys) ∙ ap (outputs_refusal s r turn wires) long in
      (λ i. or_else (first i) (first_of ((not (eqb outputs s.sizes.outputs), Memory) ∷ (not (bits i), Bit) ∷ [])))
