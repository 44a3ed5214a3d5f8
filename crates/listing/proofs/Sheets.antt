-- The lines of the memories are those of the definitions. Assumes nothing.
use Rattle.std.proofs.Common.{◌≡◌, ℕ, zero, suc, ◌<◌, Bool, false, List, ◌++◌, length, get_or, codes, refl, ap, ◌∙◌, ap₂, arith}
use Rattle.labels.specs.Papers.{paper}
use Rattle.labels.specs.declared.paper.Paper.{Paper}
use Rattle.labels.specs.Lists.{places}
use Rattle.exchange.specs.Outcome.{Outcome}
use Rattle.hashes.specs.Draws.{offset}
use Rattle.hashes.specs.PaperHash.{paper_hash}
use Rattle.circuit.specs.Gates.{output_of, wires_in}
use Rattle.labels.specs.Numbers.{digit}
use Rattle.settlement.specs.declared.lent.Lent.{Lent}
use Rattle.settlement.specs.declared.line.Line.{Line}
use Rattle.circuit.specs.Parts.{parts_of}
use Rattle.plain.specs.Plain.{bit_in, plain_bit}
use Rattle.listing.specs.Lines.{out_line}
use Rattle.listing.specs.Sheet.{offset_line, label_line, label_lines, material_line}
use Rattle.listing.specs.Worksheet.{sheet_zero, sheet_label, sheet_of}
use Rattle.listing.proofs.Steps.{numbers_same}

abbrev Carry : ℕ → (ℕ → Paper) → List Paper → Type 0
Carry n f wires = (w : ℕ) → w < n → places paper wires w ≡ f w

-- the same labels and bits give the same lines
lines_same : (f f' h h' : ℕ → Paper) (b b' : ℕ → Bool) (n : ℕ) → ((w : ℕ) → w < n → f w ≡ f' w) → ((w : ℕ) → w < n → h w ≡ h' w) → ((w : ℕ) → w < n → b w ≡ b' w)
    → label_lines f h b n ≡ label_lines f' h' b' n
lines_same f f' h h' b b' zero p q r = refl
lines_same f f' h h' b b' (suc n) p q r =
    let front = lines_same f f' h h' b b' n (λ w l. p w (omega arith)) (λ w l. q w (omega arith)) (λ w l. r w (omega arith)) in
    let pn = p n (omega arith) in
    let qn = q n (omega arith) in
    let rn = r n (omega arith) in
    ap₂ (λ (xs ys : List ℕ). xs ++ ys) front (λ i. label_line n (pn i) (qn i) (rn i))

pub label_lines_same : (n : ℕ) (f h : ℕ → Paper) (b : ℕ → Bool) (zeros labels : List Paper) (bits : List Bool) → length bits ≡ n
    → Carry n f zeros → Carry n h labels → ((w : ℕ) → w < n → get_or bits w false ≡ b w)
    → label_lines (places paper zeros) (places paper labels) (λ w. get_or bits w false) (length bits) ≡ label_lines f h b n
label_lines_same n f h b zeros labels bits long cz cl cb =
    ap (label_lines (places paper zeros) (places paper labels) (λ w. get_or bits w false)) long ∙ lines_same _ f _ h _ b n cz cl cb

pub outs_same : (f : ℕ → ℕ) (outs : List ℕ) (n : ℕ) → length outs ≡ n → ((k : ℕ) → k < n → get_or outs k 0 ≡ f k) → out_line (λ k. get_or outs k 0) (length outs) ≡ out_line f n
outs_same f outs n long e =
    ap (out_line (λ k. get_or outs k 0)) long
    ∙ ap (λ (xs : List ℕ). codes "out " ++ (xs ++ codes "\n")) (numbers_same (λ k. get_or outs k 0) f n e)

-- the lines are the sheet of what was settled
module _ (bytes seed given : List ℕ) (lent : Lent Paper) (lines : List (Line Paper)) (done : Outcome paper paper_hash (paper.from seed) (parts_of bytes) given lent lines) where
  pub sheet_same : (Δ : Paper) (bits : List Bool) → Δ ≡ offset paper_hash (paper.from seed) paper → length bits ≡ wires_in (parts_of bytes) → length lent.outputs.now ≡ (parts_of bytes).sizes.outputs
      → ((w : ℕ) → w < wires_in (parts_of bytes) → get_or bits w false ≡ plain_bit (parts_of bytes) (bit_in given) w)
      → offset_line Δ ++ (label_lines (places paper lent.zeros.now) (places paper lent.labels.now) (λ w. get_or bits w false) (length bits) ++ (material_line (λ k. get_or lent.material.now k 0) (length lent.material.now) ++ out_line (λ k. get_or lent.outputs.now k 0) (length lent.outputs.now)))
      ≡ sheet_of bytes seed given
  sheet_same Δ bits eΔ long outs plain =
      let a = ap offset_line eΔ in
      let b = label_lines_same (wires_in (parts_of bytes)) (sheet_zero bytes seed given) (sheet_label bytes seed given) (plain_bit (parts_of bytes) (bit_in given)) lent.zeros.now lent.labels.now bits long done.zeros_are done.labels_are plain in
      let m = ap (λ (xs : List ℕ). material_line (λ k. get_or xs k 0) (length xs)) done.material_is in
      let o = outs_same (λ o. digit (plain_bit (parts_of bytes) (bit_in given) (output_of (parts_of bytes) o))) lent.outputs.now (parts_of bytes).sizes.outputs outs done.outputs_are in
      (λ i. a i ++ (b i ++ (m i ++ o i)))
