-- Garble and evaluate keep the tie. Assumes nothing.
use Rattle.std.proofs.Common.{◌≡◌, ℕ, suc, ◌+◌, ◌-◌, ◌*◌, ◌<◌, ◌≤◌, Bool, true, not, ◌&&◌, List, ◌++◌, length, take, drop, None, sym, ap, ap₂, ◌∙◌, inl, inr, arith}
use Rattle.std.proofs.lemmas.Bool.{cases_lt}
use Rattle.std.proofs.lemmas.Bool.Decides.{nat_tests}
use Rattle.std.proofs.lemmas.List.{append_assoc, length-append, length-take, take-take, take_at}
use Rattle.labels.specs.Kind.{Kind, times}
use Rattle.labels.specs.Longs.{and_right}
use Rattle.hashes.specs.Draws.{offset}
use Rattle.wires.specs.Wires.{Grown}
use Rattle.circuit.specs.Parts.{Parts, parts_of}
use Rattle.circuit.specs.Forms.{makes}
use Rattle.circuit.specs.Gates.{form_of, made_before}
use Rattle.circuit.specs.Material.{gate_bytes}
use Rattle.circuit.specs.Check.{circuit_refusal}
use Rattle.gates.specs.Bytes.{laid, bytes_at}
use Rattle.plain.specs.Plain.{plain_bit}
use Rattle.steps.specs.Gate.{new_zeros, gate_material, new_labels}
use Rattle.steps.specs.Whole.{zero_label, material_at, material_before}
use Rattle.labels.specs.Lists.{places}
use Rattle.memory.specs.Copy.{open_copy}
use Rattle.laws.specs.Opened.{opened}
use Rattle.laws.proofs.Ordered.{Ordered}
use Rattle.laws.proofs.Order.{ordered_check, made_next, inputs_within}
use Rattle.laws.proofs.Same.{zeros_same, material_same}
use Rattle.laws.proofs.Lengths.{material_long}
use Rattle.laws.proofs.Zeros.{zero_fresh}
use Rattle.laws.proofs.Bits.{plain_fresh}
use Rattle.laws.proofs.Sounds.{gate_sound}
use Rattle.laws.proofs.Opening.{parts_open, labels_open}
use Rattle.parties.specs.declared.state.EvaluatorCall.TheVariants.{Evaluate as EvaluateCall}
use Rattle.parties.specs.Marks.{all_marked}
use Rattle.parties.specs.Side.{stepped}
use Rattle.parties.specs.States.{allowed, state_of}
use Rattle.parties.specs.Turns.{gates_left}
use Rattle.settlement.specs.State.{State, by_garble, by_evaluate}
use Rattle.settlement.specs.Stands.{refusal}
use Rattle.settlement.specs.declared.call.Call.TheVariants.{Garble, Evaluate}
use Rattle.settlement.proofs.Circuits.{material_next, next_long, part_is}
use Rattle.settlement.proofs.Facts.{step_free}
use Rattle.settlement.proofs.Between.{ruled, Tied}
use Rattle.settlement.proofs.Turning.{true_false, may_evaluate}

-- material laid behind what is written
laid_behind : (p k m : ℕ) (M old new : List ℕ) → take p M ≡ old → p ≡ length old → length new ≡ k → p + k ≤ length (take m M)
    → take (p + k) (laid p new (take m M) ++ drop m M) ≡ old ++ new
laid_behind p k m M old new e l n room =
    let t = length-take m M in
    let first : take p (take m M) ≡ old = take-take p m M (omega arith) ∙ e in
    let rest = drop (p + length new) (take m M) in
    let shape : laid p new (take m M) ++ drop m M ≡ (old ++ new) ++ (rest ++ drop m M) =
    ap (λ (xs : List ℕ). (xs ++ (new ++ rest)) ++ drop m M) first
    ∙ append_assoc old (new ++ rest) (drop m M) ∙ ap (λ (xs : List ℕ). old ++ xs) (append_assoc new rest (drop m M)) ∙ sym (append_assoc old new (rest ++ drop m M))
    in
    let long = length-append old new in
    ap (take (p + k)) shape ∙ take_at (old ++ new) (rest ++ drop m M) (p + k) (omega arith)

module _ {L : Type 0} (K : Kind L) (F : L → ℕ → L) (bytes : List ℕ) (seed : L) (passes : circuit_refusal bytes ≡ None) (s : State L) (x : ℕ → Bool) (tied : Tied K F bytes seed s x) where
  abbrev c : Parts
  c = parts_of bytes

  abbrev Δ : L
  Δ = offset F seed K

  abbrev zeros_of : ℕ → L
  zeros_of = zero_label K F seed c

  ordered : Ordered c
  ordered = ordered_check bytes passes

  more : (g : ℕ) → suc g ≡ g + 1
  more g = omega arith

  pub garble_keeps : (n m : ℕ) → refusal s K bytes (Garble n m) ≡ None → (zeros scratch : List L) (count : ℕ)
      → Grown s.garbler.made (makes (form_of (parts_of bytes) s.garbler.next)) (places K (new_zeros (parts_of bytes) s.garbler.next K (places K s.zeros) F s.seed s.offset)) s.zeros zeros
      → Tied K F bytes seed (by_garble s
      (stepped s.garbler (makes (form_of (parts_of bytes) s.garbler.next)) (gate_bytes (8 * K.width) (form_of (parts_of bytes) s.garbler.next)))
      zeros
      (laid s.garbler.bytes (gate_material (parts_of bytes) s.garbler.next K (places K s.zeros) F s.seed s.offset) (take m s.material) ++ drop m s.material)
      scratch count) x
  garble_keeps n m free zeros scratch count grown =
      let g = s.garbler.next in
      let f = step_free s.garbler bytes K (not s.garbler.ended && gates_left s.garbler) (length s.zeros) (length (take n s.scratch)) (length (take m s.material)) free in
      let left = and_right (not s.garbler.ended) (gates_left s.garbler) f.its_turn in
      let below : g < s.garbler.sizes.gates = grind (arith, nat_tests) in
      let sizes = ap (λ z. z.gates) tied.garbler_sizes in
      let there : g < c.sizes.gates = omega arith in
      let made = tied.garbler_made in
      let bytes_now = tied.garbler_bytes in
      let room = f.enough in
      let agree : (w : ℕ) → w < made_before c g → places K s.zeros w ≡ zeros_of w = λ w l. tied.zeros w (omega arith) in
      let news : new_zeros c g K (places K s.zeros) F s.seed s.offset ≡ new_zeros c g K zeros_of F seed Δ =
      (λ i. new_zeros c g K (places K s.zeros) F (tied.seed_is i) (tied.offset_is i)) ∙ zeros_same K F seed Δ c g ordered there (places K s.zeros) zeros_of agree
      in
      let row : gate_material c g K (places K s.zeros) F s.seed s.offset ≡ material_at K F seed c g =
      (λ i. gate_material c g K (places K s.zeros) F (tied.seed_is i) (tied.offset_is i)) ∙ material_same K F seed Δ c g ordered there (places K s.zeros) zeros_of agree
      in
      let long = material_long K F s.seed s.offset c g (places K s.zeros) in
      let next = made_next c g in
      let behind = next_long K F seed c g in
      record {
        seed_is = tied.seed_is;
        offset_is = tied.offset_is;
        garbler_sizes = tied.garbler_sizes;
        garbler_made = ap (λ (k : ℕ). k + makes (form_of c g)) made ∙ sym next ∙ ap (made_before c) (more g);
        garbler_bytes = ap (λ (k : ℕ). k + gate_bytes (8 * K.width) (form_of c g)) bytes_now ∙ sym behind ∙ ap (λ (k : ℕ). length (material_before K F seed c k)) (more g);
        zeros = λ w l. elim (cases_lt w s.garbler.made) [
          | inl h ↦ grown.kept w K.zero h ∙ tied.zeros w h
          | inr h ↦ (
              let j = w - s.garbler.made in
              let at : w ≡ s.garbler.made + j = omega arith in
              let in_gate : j < makes (form_of c g) = omega arith in
              let here : made_before c g + j ≡ w = omega arith in
              ap (places K zeros) at ∙ grown.fresh j K.zero in_gate ∙ ap (λ (xs : List L). places K xs j) news
              ∙ sym (zero_fresh K F seed c g j ordered there in_gate) ∙ ap zeros_of here)
        ];
        written = laid_behind s.garbler.bytes (gate_bytes (8 * K.width) (form_of c g)) m s.material (material_before K F seed c g)
            (gate_material c g K (places K s.zeros) F s.seed s.offset) tied.written bytes_now long room
            ∙ ap (λ (xs : List ℕ). material_before K F seed c g ++ xs) row ∙ sym (material_next K F seed c g) ∙ ap (material_before K F seed c) (more g);
        sent = tied.sent;
        evaluator_sizes = tied.evaluator_sizes;
        evaluator_made = tied.evaluator_made;
        evaluator_bytes = tied.evaluator_bytes;
        after_encode = tied.after_encode;
        delivered = tied.delivered;
        waits = tied.waits;
        evaluated = tied.evaluated;
        shown = tied.shown;
        finished = tied.finished;
        sent_room = tied.sent_room;
        marks_long = tied.marks_long;
        labels_marks_long = tied.labels_marks_long;
      }

  pub evaluate_keeps : K.colour (offset F seed K) ≡ true → (n : ℕ) → refusal s K bytes (Evaluate n) ≡ None → (labels scratch : List L) (count : ℕ)
      → Grown s.evaluator.made (makes (form_of (parts_of (open_copy bytes)) s.evaluator.next))
      (places K (new_labels (parts_of (open_copy bytes)) s.evaluator.next K (places K s.labels) F (bytes_at s.evaluator.bytes (gate_bytes (8 * K.width) (form_of (parts_of (open_copy bytes)) s.evaluator.next)) (take s.garbler.bytes s.material)))) s.labels labels
      → Tied K F bytes seed (by_evaluate s
      (stepped s.evaluator (makes (form_of (parts_of (open_copy bytes)) s.evaluator.next)) (gate_bytes (8 * K.width) (form_of (parts_of (open_copy bytes)) s.evaluator.next)))
      labels scratch count) x
  evaluate_keeps coloured n free labels scratch count grown =
      let g = s.evaluator.next in
      let d : Parts = parts_of (open_copy bytes) in
      let p : d ≡ opened c = parts_open bytes passes in
      let f = step_free s.evaluator (open_copy bytes) K (allowed (state_of s.evaluator) EvaluateCall) (length s.labels) (length (take n s.scratch)) (length (take s.garbler.bytes s.material)) free in
      let turn = may_evaluate s.evaluator.ended (all_marked s.evaluator.marks s.evaluator.sizes.inputs) (gates_left s.evaluator) f.its_turn in
      let sizes = ap (λ z. z.gates) tied.evaluator_sizes in
      let all : all_marked s.evaluator.marks c.sizes.inputs ≡ true = ap (λ z. all_marked s.evaluator.marks z.inputs) (sym tied.evaluator_sizes) ∙ turn.0 in
      let left = turn.1 in
      let below : g < s.evaluator.sizes.gates = grind (arith, nat_tests) in
      let there : g < c.sizes.gates = omega arith in
      let made = tied.evaluator_made in
      let bytes_now = tied.evaluator_bytes in
      let makes_is : makes (form_of d g) ≡ makes (form_of c g) = ap (λ (q : Parts). makes (form_of q g)) p in
      let bytes_is : gate_bytes (8 * K.width) (form_of d g) ≡ gate_bytes (8 * K.width) (form_of c g) = ap (λ (q : Parts). gate_bytes (8 * K.width) (form_of q g)) p in
      let written = ap length tied.written in
      let enough = f.enough in
      let own : bytes_at s.evaluator.bytes (gate_bytes (8 * K.width) (form_of d g)) (take s.garbler.bytes s.material) ≡ material_at K F seed c g =
      (λ i. bytes_at (bytes_now i) (bytes_is i) (tied.written i)) ∙ part_is K F seed c g s.garbler.next (omega arith)
      in
      let news : new_labels d g K (places K s.labels) F (bytes_at s.evaluator.bytes (gate_bytes (8 * K.width) (form_of d g)) (take s.garbler.bytes s.material)) ≡ new_labels c g K (places K s.labels) F (material_at K F seed c g) =
      (λ i. new_labels (p i) g K (places K s.labels) F (own i)) ∙ labels_open K F (material_at K F seed c g) c g (places K s.labels)
      in
      let next = made_next c g in
      let behind = next_long K F seed c g in
      let inside = inputs_within c g in
      let old : (w : ℕ) → w < made_before c g → places K s.labels w ≡ K.xor (zeros_of w) (times K (plain_bit c x w) Δ) = λ w l. tied.evaluated all w (omega arith) in
      record {
        seed_is = tied.seed_is;
        offset_is = tied.offset_is;
        garbler_sizes = tied.garbler_sizes;
        garbler_made = tied.garbler_made;
        garbler_bytes = tied.garbler_bytes;
        zeros = tied.zeros;
        written = tied.written;
        sent = tied.sent;
        evaluator_sizes = tied.evaluator_sizes;
        evaluator_made = ap₂ ◌+◌ made makes_is ∙ sym next ∙ ap (made_before c) (more g);
        evaluator_bytes = ap₂ ◌+◌ bytes_now bytes_is ∙ sym behind ∙ ap (λ (k : ℕ). length (material_before K F seed c k)) (more g);
        after_encode = tied.after_encode;
        delivered = λ i l mk. grown.kept i K.zero (omega arith) ∙ tied.delivered i l mk;
        waits = λ no. true_false (all_marked s.evaluator.marks c.sizes.inputs) all no;
        evaluated = λ _ w l. elim (cases_lt w s.evaluator.made) [
          | inl h ↦ grown.kept w K.zero h ∙ tied.evaluated all w h
          | inr h ↦ (
              let j = w - s.evaluator.made in
              let at : w ≡ s.evaluator.made + j = omega arith in
              let in_gate : j < makes (form_of c g) = omega arith in
              let in_copy : j < makes (form_of d g) = omega arith in
              let here : made_before c g + j ≡ w = omega arith in
              ap (places K labels) at ∙ grown.fresh j K.zero in_copy ∙ ap (λ (xs : List L). places K xs j) news
              ∙ gate_sound K F seed Δ c g ordered there coloured zeros_of (places K s.labels) (plain_bit c x) old j in_gate
              ∙ ap₂ (λ z b. K.xor z (times K b Δ)) (sym (zero_fresh K F seed c g j ordered there in_gate)) (sym (plain_fresh c x g j ordered there in_gate))
              ∙ ap (λ (k : ℕ). ruled K F bytes seed k (plain_bit c x k)) here)
        ];
        shown = tied.shown;
        finished = λ e. (let over = (tied.finished e).1 in absurd (omega arith));
        sent_room = tied.sent_room;
        marks_long = tied.marks_long;
        labels_marks_long = tied.labels_marks_long;
      }
