-- Each call keeps the lengths of all memories. Assumes nothing.
use Rattle.std.proofs.Common.{◌≡◌, ℕ, ◌+◌, ◌≤◌, not, ◌&&◌, List, ◌++◌, length, take, drop, replicate, None, sym, ap, ◌∙◌, arith}
use Rattle.std.proofs.lemmas.List.{length-append, length-take, length-take-le, length-drop, length-set, length-replicate, take-append-drop}
use Rattle.labels.specs.Kind.{Kind}
use Rattle.circuit.specs.Parts.{parts_of}
use Rattle.gates.specs.Bytes.{laid}
use Rattle.laws.proofs.Lengths.{material_long}
use Rattle.memory.specs.Outputs.{colour_at, colours_of}
use Rattle.parties.specs.Turns.{gates_left}
use Rattle.steps.specs.Gate.{gate_material}
use Rattle.labels.specs.Lists.{places}
use Rattle.tables.proofs.Packing.{length_listed}
use Rattle.settlement.specs.State.{State}
use Rattle.settlement.specs.Stands.{refusal, sent_label}
use Rattle.settlement.specs.Accepted.{Accepted}
use Rattle.settlement.specs.Made.{Step}
use Rattle.settlement.specs.Alike.{SameLengths}
use Rattle.settlement.specs.declared.call.Call.{Call}
use Rattle.settlement.specs.declared.call.Call.TheVariants.{Garble, Encode, Deliver, Evaluate, Colours, Decode, Certify}
use Rattle.settlement.specs.declared.line.Answer.{Answer}
use Rattle.settlement.proofs.Facts.{step_free}
use Rattle.settlement.proofs.Outcomes.{stays, goes, outcome}

-- a memory whose front was replaced by as much
part_long : {X : Type 0} (n : ℕ) (xs part : List X) → length part ≡ length (take n xs) → length (part ++ drop n xs) ≡ length xs
part_long n xs part e =
    let a = length-append part (drop n xs) in
    let b = length-append (take n xs) (drop n xs) in
    let w = ap length (take-append-drop n xs) in
    omega arith

laid_long : (p : ℕ) (new xs : List ℕ) → p + length new ≤ length xs → length (laid p new xs) ≡ length xs
laid_long p new xs l =
    let a = length-append (take p xs) (new ++ drop (p + length new) xs) in
    let b = length-append new (drop (p + length new) xs) in
    let t = length-take-le p xs (omega arith) in
    let d = length-drop (p + length new) xs in
    omega arith

-- the first of a memory, and of another of its length
pub lent_long : {X : Type 0} (n : ℕ) (xs ys : List X) → length ys ≡ length xs → length (take n ys) ≡ length (take n xs)
lent_long n xs ys e =
    let a = length-take n xs in
    let b = length-take n ys in
    omega arith

module _ {L : Type 0} where
  same_lengths : (s t : State L) → t ≡ s → SameLengths s t
  same_lengths s t e = record {
    zeros = ap (λ (z : State L). length z.zeros) e;
    labels = ap (λ (z : State L). length z.labels) e;
    scratch = ap (λ (z : State L). length z.scratch) e;
    material = ap (λ (z : State L). length z.material) e;
    colours = ap (λ (z : State L). length z.colours) e;
    outputs = ap (λ (z : State L). length z.outputs) e;
  }

  -- of two states of the same lengths, after a call each
  pub lengths_kept : (s t u v : State L) → SameLengths s t → SameLengths s u → SameLengths t v → SameLengths u v
  lengths_kept s t u v e a b = record {
    zeros = b.zeros ∙ e.zeros ∙ sym a.zeros;
    labels = b.labels ∙ e.labels ∙ sym a.labels;
    scratch = b.scratch ∙ e.scratch ∙ sym a.scratch;
    material = b.material ∙ e.material ∙ sym a.material;
    colours = b.colours ∙ e.colours ∙ sym a.colours;
    outputs = b.outputs ∙ e.outputs ∙ sym a.outputs;
  }

module _ {L : Type 0} (K : Kind L) (F E : L → ℕ → L) (bytes : List ℕ) (s : State L) (a : Answer L) (t : State L) where
  pub accepted_lengths : (call : Call) → refusal s K bytes call ≡ None → Accepted K bytes s a t F E call → SameLengths s t
  accepted_lengths (Garble n m) free acc =
      let f = step_free s.garbler bytes K (not s.garbler.ended && gates_left s.garbler) (length s.zeros) (length (take n s.scratch)) (length (take m s.material)) free in
      let long = material_long K F s.seed s.offset (parts_of bytes) s.garbler.next (places K s.zeros) in
      let room = f.enough in
      record {
        zeros = acc.wires.long;
        labels = ap (λ (z : State L). length z.labels) acc.leaves;
        scratch = ap (λ (z : State L). length z.scratch) acc.leaves ∙ part_long n s.scratch (replicate (length (take n s.scratch)) K.zero) (length-replicate (length (take n s.scratch)) K.zero);
        material = ap (λ (z : State L). length z.material) acc.leaves
            ∙ part_long m s.material (laid s.garbler.bytes (gate_material (parts_of bytes) s.garbler.next K (places K s.zeros) F s.seed s.offset) (take m s.material))
            (laid_long s.garbler.bytes (gate_material (parts_of bytes) s.garbler.next K (places K s.zeros) F s.seed s.offset) (take m s.material) (omega arith));
        colours = ap (λ (z : State L). length z.colours) acc.leaves;
        outputs = ap (λ (z : State L). length z.outputs) acc.leaves;
      }
  accepted_lengths (Encode i b) free acc = record {
    zeros = ap (λ (z : State L). length z.zeros) acc.leaves;
    labels = ap (λ (z : State L). length z.labels) acc.leaves;
    scratch = ap (λ (z : State L). length z.scratch) acc.leaves;
    material = ap (λ (z : State L). length z.material) acc.leaves;
    colours = ap (λ (z : State L). length z.colours) acc.leaves;
    outputs = ap (λ (z : State L). length z.outputs) acc.leaves;
  }
  accepted_lengths (Deliver i) free acc = record {
    zeros = ap (λ (z : State L). length z.zeros) acc.leaves;
    labels = ap (λ (z : State L). length z.labels) acc.leaves ∙ length-set s.labels i (sent_label s K i);
    scratch = ap (λ (z : State L). length z.scratch) acc.leaves;
    material = ap (λ (z : State L). length z.material) acc.leaves;
    colours = ap (λ (z : State L). length z.colours) acc.leaves;
    outputs = ap (λ (z : State L). length z.outputs) acc.leaves;
  }
  accepted_lengths (Evaluate n) free acc = record {
    zeros = ap (λ (z : State L). length z.zeros) acc.leaves;
    labels = acc.wires.long;
    scratch = ap (λ (z : State L). length z.scratch) acc.leaves ∙ part_long n s.scratch (replicate (length (take n s.scratch)) K.zero) (length-replicate (length (take n s.scratch)) K.zero);
    material = ap (λ (z : State L). length z.material) acc.leaves;
    colours = ap (λ (z : State L). length z.colours) acc.leaves;
    outputs = ap (λ (z : State L). length z.outputs) acc.leaves;
  }
  accepted_lengths (Colours n) free acc = record {
    zeros = ap (λ (z : State L). length z.zeros) acc.leaves;
    labels = ap (λ (z : State L). length z.labels) acc.leaves;
    scratch = ap (λ (z : State L). length z.scratch) acc.leaves;
    material = ap (λ (z : State L). length z.material) acc.leaves;
    colours = ap (λ (z : State L). length z.colours) acc.leaves
        ∙ part_long n s.colours (colours_of K s.zeros (parts_of bytes).outputs (length (take n s.colours))) (length_listed (colour_at K s.zeros (parts_of bytes).outputs) (length (take n s.colours)));
    outputs = ap (λ (z : State L). length z.outputs) acc.leaves;
  }
  accepted_lengths (Decode n) free acc = record {
    zeros = ap (λ (z : State L). length z.zeros) acc.leaves;
    labels = ap (λ (z : State L). length z.labels) acc.leaves;
    scratch = ap (λ (z : State L). length z.scratch) acc.leaves;
    material = ap (λ (z : State L). length z.material) acc.leaves;
    colours = ap (λ (z : State L). length z.colours) acc.leaves;
    outputs = ap (λ (z : State L). length z.outputs) acc.leaves
        ∙ part_long n s.outputs _ (length_listed _ (length (take n s.outputs)));
  }
  accepted_lengths (Certify o) free acc = same_lengths s t acc.leaves

  pub step_lengths : (call : Call) → Step K F E bytes s call a t → SameLengths s t
  step_lengths call step =
      elim (outcome K F E bytes s call a t step) [
        | stays unmade e ↦ same_lengths s t e
        | goes standing free acc ↦ accepted_lengths call free acc
      ]
