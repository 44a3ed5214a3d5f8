-- The figures for the pencil: paper labels, the paper hash and the seed 0031, and the size of the largest table with long labels. Assumes nothing.
use Rattle.std.specs.Prelude.{◌≡◌, ℕ, List, [], ◌∷◌}
use Rattle.labels.specs.Papers.{paper, of_word}
use Rattle.labels.specs.Longs.{long}
use Rattle.labels.specs.declared.paper.Paper.{Paper}
use Rattle.hashes.specs.Draws.{offset, input_zero}
use Rattle.hashes.specs.PaperHash.{paper_hash}
use Rattle.gates.specs.Half.{garbled, joined}
use Rattle.tables.specs.Gate.{drawn, material, zero_labels, evaluated, garbler_calls, evaluator_calls}
use Rattle.material.specs.Size.{bits_of}
use Rattle.labels.specs.Words.{word_at}

abbrev pub seed : Paper
seed = of_word 0x0031

abbrev pub Δ : Paper
Δ = offset paper_hash seed paper

-- the zero labels of inputs 0 and 1
abbrev pub A : Paper
A = input_zero paper_hash seed 0

abbrev pub B : Paper
B = input_zero paper_hash seed 1

-- the label of bit 1 on a wire with this zero label
abbrev pub one : Paper → Paper
one zero = paper.xor zero Δ

-- AND of both inputs, as gate 0
abbrev pub and_gate : Paper × Paper × Paper
and_gate = garbled paper paper_hash 0 Δ A B

abbrev pub and_label : Paper → Paper → Paper
and_label a b = joined paper paper_hash 0 and_gate.0 and_gate.1 a b

-- the table n = 1, m = 2 with rows 2, 1, as gate 0 on input 0
abbrev pub row : ℕ → ℕ
row = word_at (2 ∷ 0 ∷ 1 ∷ 0 ∷ [])

abbrev pub table_material : List ℕ
table_material = material paper paper_hash 0 1 2 (drawn paper paper_hash 0 1 2 seed) Δ (λ _. A) row

abbrev pub table_zeros : List Paper
table_zeros = zero_labels paper paper_hash 0 1 2 (drawn paper paper_hash 0 1 2 seed) Δ (λ _. A) row

abbrev pub table_labels : Paper → List Paper
table_labels a = evaluated paper paper_hash 0 1 2 table_material (λ _. a)

pub record Figures : Type 0 where
  pub offset_is : Δ ≡ of_word 0xF601
  pub input_0 : A ≡ of_word 0xFB00
  pub input_1 : B ≡ of_word 0x0001
  pub and_t : and_gate.0 ≡ of_word 0xF1A7
  pub and_u : and_gate.1 ≡ of_word 0xF6CE
  pub and_zero : and_gate.2 ≡ of_word 0x0729
  pub and_one_one : and_label (one A) (one B) ≡ of_word 0xF128
  pub and_one_zero : and_label (one A) B ≡ of_word 0x0729
  pub xor : paper.xor A B ≡ of_word 0xFB01
  pub table_bytes : table_material ≡ (0xBA ∷ 0x07 ∷ 0xBA ∷ 0xF6 ∷ 0x0E ∷ [])
  pub table_zero : table_zeros ≡ (of_word 0xAAF1 ∷ of_word 0xA0F0 ∷ [])
  pub table_for_0 : table_labels A ≡ (of_word 0xAAF1 ∷ of_word 0x56F1 ∷ [])
  pub table_for_1 : table_labels (one A) ≡ (of_word 0x5CF0 ∷ of_word 0xA0F0 ∷ [])
  pub table_bits : bits_of paper.width 1 2 ≡ 36
  pub garbler_count : garbler_calls 1 2 ≡ 7
  pub evaluator_count : evaluator_calls 1 2 ≡ 3
  pub largest_bits : bits_of long.width 8 16 ≡ 21376
