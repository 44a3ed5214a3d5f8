-- What ties both sides of a settlement to the rules, between two calls. Assumes nothing.
use Rattle.std.proofs.Common.{◌≡◌, ℕ, ◌<◌, ◌≤◌, Bool, true, false, List, length, take, slice_index, Some}
use Rattle.labels.specs.Kind.{Kind, times}
use Rattle.labels.specs.Numbers.{digit}
use Rattle.hashes.specs.Draws.{offset}
use Rattle.circuit.specs.Parts.{parts_of}
use Rattle.circuit.specs.Gates.{made_before, output_of}
use Rattle.plain.specs.Plain.{plain_bit}
use Rattle.steps.specs.Whole.{zero_label, material_before}
use Rattle.labels.specs.Lists.{places}
use Rattle.parties.specs.Marks.{is_marked, all_marked}
use Rattle.settlement.specs.State.{State}

module _ {L : Type 0} (K : Kind L) (F : L → ℕ → L) (bytes : List ℕ) (seed : L) where
  -- the label of bit b on wire w by the rules
  abbrev pub ruled : ℕ → Bool → L
  ruled w b = K.xor (zero_label K F seed (parts_of bytes) w) (times K b (offset F seed K))

  abbrev pub material : ℕ → List ℕ
  material g = material_before K F seed (parts_of bytes) g

  -- x are the inputs' bits so far
  pub record Tied (s : State L) (x : ℕ → Bool) : Type 0 where
    pub seed_is : s.seed ≡ seed
    pub offset_is : s.offset ≡ offset F seed K
    pub garbler_sizes : s.garbler.sizes ≡ (parts_of bytes).sizes
    pub garbler_made : s.garbler.made ≡ made_before (parts_of bytes) s.garbler.next
    pub garbler_bytes : s.garbler.bytes ≡ length (material s.garbler.next)
    pub zeros : (w : ℕ) → w < s.garbler.made → places K s.zeros w ≡ zero_label K F seed (parts_of bytes) w
    pub written : take s.garbler.bytes s.material ≡ material s.garbler.next
    pub sent : (i : ℕ) → is_marked s.garbler.marks i ≡ true → places K s.sent i ≡ ruled i (x i)
    pub evaluator_sizes : s.evaluator.sizes ≡ (parts_of bytes).sizes
    pub evaluator_made : s.evaluator.made ≡ made_before (parts_of bytes) s.evaluator.next
    pub evaluator_bytes : s.evaluator.bytes ≡ length (material s.evaluator.next)
    pub after_encode : (i : ℕ) → i < (parts_of bytes).sizes.inputs → is_marked s.evaluator.marks i ≡ true → is_marked s.garbler.marks i ≡ true
    pub delivered : (i : ℕ) → i < (parts_of bytes).sizes.inputs → is_marked s.evaluator.marks i ≡ true → places K s.labels i ≡ ruled i (x i)
    pub waits : all_marked s.evaluator.marks (parts_of bytes).sizes.inputs ≡ false → s.evaluator.next ≡ 0
    pub evaluated : all_marked s.evaluator.marks (parts_of bytes).sizes.inputs ≡ true → (w : ℕ) → w < s.evaluator.made → places K s.labels w ≡ ruled w (plain_bit (parts_of bytes) x w)
    pub shown : (n : ℕ) → s.shown ≡ Some n → (n ≡ (parts_of bytes).sizes.outputs)
        × ((o : ℕ) → o < (parts_of bytes).sizes.outputs → slice_index s.colours o ≡ digit (K.colour (zero_label K F seed (parts_of bytes) (output_of (parts_of bytes) o))))
    pub finished : s.decoded ≡ true → (all_marked s.evaluator.marks (parts_of bytes).sizes.inputs ≡ true) × ((parts_of bytes).sizes.gates ≤ s.evaluator.next)
    pub sent_room : 256 ≤ length s.sent
    pub marks_long : length s.garbler.marks ≡ 256
    pub labels_marks_long : length s.evaluator.marks ≡ 256
