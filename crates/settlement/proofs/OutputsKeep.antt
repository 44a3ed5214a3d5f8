-- Colours and decode keep the tie. Assumes nothing.
use Rattle.std.proofs.Common.{◌≡◌, ℕ, ◌<◌, ◌≤◌, Bool, true, false, not, ◌&&◌, List, ◌++◌, length, take, drop, Some, None, sym, ap, ◌∙◌, arith}
use Rattle.std.proofs.lemmas.Bool.Decides.{nat_tests}
use Rattle.std.proofs.lemmas.List.{get_or_append_left}
use Rattle.labels.specs.Kind.{Kind}
use Rattle.labels.specs.Longs.{and_right}
use Rattle.labels.specs.Numbers.{digit}
use Rattle.circuit.specs.Parts.{Parts, parts_of}
use Rattle.circuit.specs.Gates.{output_of, wires_in}
use Rattle.circuit.specs.Check.{circuit_refusal}
use Rattle.steps.specs.Whole.{zero_label}
use Rattle.labels.specs.Lists.{listed, places}
use Rattle.tables.proofs.Packing.{length_listed, get_or_listed}
use Rattle.circuit.proofs.Checks.{or_else_none}
use Rattle.memory.specs.Copy.{open_copy}
use Rattle.parties.specs.Marks.{all_marked}
use Rattle.parties.specs.States.{allowed, state_of}
use Rattle.parties.specs.Refusing.{outputs_refusal}
use Rattle.parties.specs.declared.state.EvaluatorCall.TheVariants.{Decode as DecodeCall}
use Rattle.memory.specs.Outputs.{colour_at, colours_of}
use Rattle.laws.proofs.Order.{made_up}
use Rattle.parties.specs.Turns.{gates_left}
use Rattle.settlement.specs.State.{State, by_colours, by_decode}
use Rattle.settlement.specs.Stands.{colours_by, refusal}
use Rattle.settlement.specs.declared.call.Call.TheVariants.{Colours, Decode}
use Rattle.settlement.proofs.Circuits.{outputs_made}
use Rattle.settlement.proofs.Facts.{outputs_free}
use Rattle.settlement.proofs.Between.{Tied}
use Rattle.settlement.proofs.Turning.{not_true, may_decode}

some_same : (a b : ℕ) → Some a ≡ Some b → a ≡ b
some_same a b e = cc

module _ {L : Type 0} (K : Kind L) (F : L → ℕ → L) (bytes : List ℕ) (seed : L) (passes : circuit_refusal bytes ≡ None) (s : State L) (x : ℕ → Bool) (tied : Tied K F bytes seed s x) where
  abbrev c : Parts
  c = parts_of bytes

  -- every wire's zero label, once all gates are garbled
  all_zeros : gates_left s.garbler ≡ false → (w : ℕ) → w < wires_in (parts_of bytes) → places K s.zeros w ≡ zero_label K F seed (parts_of bytes) w
  all_zeros none w l =
      let sizes = ap (λ z. z.gates) tied.garbler_sizes in
      let done : s.garbler.sizes.gates ≤ s.garbler.next = grind (arith, nat_tests) in
      let up = made_up c c.sizes.gates s.garbler.next (omega arith) in
      let made = tied.garbler_made in
      tied.zeros w (omega arith)

  pub colours_keep : (n : ℕ) → refusal s K bytes (Colours n) ≡ None
      → Tied K F bytes seed (by_colours s (colours_of K s.zeros (parts_of bytes).outputs (length (take n s.colours)) ++ drop n s.colours) (Some (length (take n s.colours)))) x
  colours_keep n free =
      let m = length (take n s.colours) in
      let f = outputs_free s.garbler bytes (not s.garbler.ended && not (gates_left s.garbler)) (length s.zeros) m free in
      let none = not_true (gates_left s.garbler) (and_right (not s.garbler.ended) (not (gates_left s.garbler)) f.its_turn) in
      let sizes = ap (λ z. z.outputs) tied.garbler_sizes in
      let count = f.count in
      let as_many : m ≡ c.sizes.outputs = omega arith in
      let f_at = colour_at K s.zeros c.outputs in
      let long = length_listed f_at m in
      record {
        seed_is = tied.seed_is;
        offset_is = tied.offset_is;
        garbler_sizes = tied.garbler_sizes;
        garbler_made = tied.garbler_made;
        garbler_bytes = tied.garbler_bytes;
        zeros = tied.zeros;
        written = tied.written;
        sent = tied.sent;
        evaluator_sizes = tied.evaluator_sizes;
        evaluator_made = tied.evaluator_made;
        evaluator_bytes = tied.evaluator_bytes;
        after_encode = tied.after_encode;
        delivered = tied.delivered;
        waits = tied.waits;
        evaluated = tied.evaluated;
        shown = λ k e. (
          (let q : m ≡ k = some_same m k e in sym q ∙ as_many),
          (λ o l. get_or_append_left (listed m f_at) (drop n s.colours) 0 o (omega arith) ∙ get_or_listed f_at m o 0 (omega arith)
              ∙ ap (λ (z : L). digit (K.colour z)) (all_zeros none (output_of c o) (outputs_made bytes passes o l))),
        );
        finished = tied.finished;
        sent_room = tied.sent_room;
        marks_long = tied.marks_long;
        labels_marks_long = tied.labels_marks_long;
      }

  -- the evaluator has finished where it may decode
  pub may_decode_finished : (n : ℕ) → refusal s K bytes (Decode n) ≡ None → (all_marked s.evaluator.marks (parts_of bytes).sizes.inputs ≡ true) × ((parts_of bytes).sizes.gates ≤ s.evaluator.next)
  may_decode_finished n free =
      let both = or_else_none (outputs_refusal s.evaluator (open_copy bytes) (allowed (state_of s.evaluator) DecodeCall) (length s.labels) (length (colours_by s.shown s.colours))) _ free in
      let f = outputs_free s.evaluator (open_copy bytes) (allowed (state_of s.evaluator) DecodeCall) (length s.labels) (length (colours_by s.shown s.colours)) both.0 in
      let turn = may_decode s.evaluator.ended (all_marked s.evaluator.marks s.evaluator.sizes.inputs) (gates_left s.evaluator) f.its_turn in
      let gates = ap (λ z. z.gates) tied.evaluator_sizes in
      let none = turn.1 in
      let done : s.evaluator.sizes.gates ≤ s.evaluator.next = grind (arith, nat_tests) in
      (ap (λ z. all_marked s.evaluator.marks z.inputs) (sym tied.evaluator_sizes) ∙ turn.0, omega arith)

  pub decode_keeps : (n : ℕ) → refusal s K bytes (Decode n) ≡ None → (outputs : List ℕ) → Tied K F bytes seed (by_decode s outputs) x
  decode_keeps n free outputs = record {
    seed_is = tied.seed_is;
    offset_is = tied.offset_is;
    garbler_sizes = tied.garbler_sizes;
    garbler_made = tied.garbler_made;
    garbler_bytes = tied.garbler_bytes;
    zeros = tied.zeros;
    written = tied.written;
    sent = tied.sent;
    evaluator_sizes = tied.evaluator_sizes;
    evaluator_made = tied.evaluator_made;
    evaluator_bytes = tied.evaluator_bytes;
    after_encode = tied.after_encode;
    delivered = tied.delivered;
    waits = tied.waits;
    evaluated = tied.evaluated;
    shown = tied.shown;
    finished = λ _. may_decode_finished n free;
    sent_room = tied.sent_room;
    marks_long = tied.marks_long;
    labels_marks_long = tied.labels_marks_long;
  }
