-- One call more of a whole settlement is accepted. Assumes nothing.
use Rattle.std.proofs.Common.{◌≡◌, ◌≢◌, ℕ, suc, ◌+◌, ◌*◌, ◌<◌, ◌≤◌, Bool, true, false, leb, List, [], ◌∷◌, ◌++◌, length, take, drop, Some, None, Option, get_or, refl, sym, ap, ap₂, ◌∙◌, subst, arith}
use Rattle.std.proofs.lemmas.List.{length-take-le, take_at}
use Rattle.labels.specs.Kind.{Kind}
use Rattle.hashes.specs.Count.{counted}
use Rattle.circuit.specs.Words.{sum_below, all_below}
use Rattle.circuit.specs.Parts.{Parts, parts_of}
use Rattle.circuit.specs.Gates.{form_of, output_of, wires_in}
use Rattle.circuit.specs.Refusals.{first_of, or_else}
use Rattle.circuit.specs.declared.refusal.Refusal.{Refusal}
use Rattle.circuit.specs.declared.refusal.Refusal.TheVariants.{Foreign}
use Rattle.labels.specs.Lists.{places}
use Rattle.circuit.specs.Material.{gate_bits, gate_bytes}
use Rattle.circuit.specs.Check.{circuit_refusal, bytes_in}
use Rattle.steps.specs.Gate.{garble_calls, evaluate_calls}
use Rattle.memory.specs.Copy.{open_copy}
use Rattle.memory.specs.Outputs.{colours_of}
use Rattle.laws.proofs.Opening.{passes_open}
use Rattle.parties.specs.declared.side.Side.{Side}
use Rattle.parties.specs.Marks.{is_marked}
use Rattle.parties.specs.Refusing.{is_foreign, decode_refusal, certify_refusal}
use Rattle.garbler.specs.Garbling.{encoded}
use Rattle.settlement.specs.State.{State}
use Rattle.settlement.specs.Stands.{refusal, is_shown, colours_by, output_label}
use Rattle.settlement.specs.Accepted.{Accepted}
use Rattle.settlement.specs.Alike.{SameLengths}
use Rattle.settlement.specs.Made.{Step}
use Rattle.settlement.specs.declared.call.Call.{Call}
use Rattle.settlement.specs.declared.call.Call.TheVariants.{Garble, Encode, Deliver, Evaluate, Colours, Decode, Certify}
use Rattle.settlement.specs.declared.line.Answer.{Answer}
use Rattle.settlement.specs.declared.line.Answer.TheVariants.{Refused, Garbled, Encoded, Delivered, Evaluated, Coloured, Decoded, Certified}
use Rattle.settlement.proofs.Certifying.{or_true}
use Rattle.settlement.proofs.AlikeLengths.{accepted_lengths}
use Rattle.exchange.proofs.Marks.{is_below}
use Rattle.exchange.proofs.Reached.{reached, marks_on, steps_on}
use Rattle.exchange.proofs.Copies.{inputs_copy, gates_copy, outputs_copy, wires_copy, calls_copy, bytes_copy, gate_bytes_copy}
use Rattle.exchange.proofs.Colours.{colours_long, colours_small}
use Rattle.exchange.proofs.Accepted.{encode_passes, deliver_passes, garble_passes, evaluate_passes, colours_passes, decode_passes, certify_passes}

counted_on : (a b : ℕ) → counted (counted 0 a) b ≡ counted 0 (a + b)
counted_on a b = omega arith

add_assoc : (a b d : ℕ) → a + b + d ≡ a + (b + d)
add_assoc a b d = omega arith

at_least : (a b : ℕ) → a ≡ b → b ≤ a
at_least a b e = omega arith

pub record IsCertified {L : Type 0} (a : Answer L) : Type 0 where
  pub bit : Bool
  pub answer : a ≡ Certified bit

module _ {L : Type 0} (K : Kind L) (bytes : List ℕ) where
  abbrev c : Parts
  c = parts_of bytes

  abbrev copied : Parts
  copied = parts_of (open_copy bytes)

  -- memory as long as the circuit asks
  pub record Enough (s : State L) : Type 0 where
    pub zeros : length s.zeros ≡ wires_in c
    pub labels : length s.labels ≡ wires_in c
    pub scratch : length s.scratch ≡ 256
    pub material : length s.material ≡ bytes_in K c c.sizes.gates
    pub colours : length s.colours ≡ c.sizes.outputs
    pub outputs : length s.outputs ≡ c.sizes.outputs

  enough_still : (s t : State L) → SameLengths s t → Enough s → Enough t
  enough_still s t same e = record {
    zeros = same.zeros ∙ e.zeros;
    labels = same.labels ∙ e.labels;
    scratch = same.scratch ∙ e.scratch;
    material = same.material ∙ e.material;
    colours = same.colours ∙ e.colours;
    outputs = same.outputs ∙ e.outputs;
  }

  -- e inputs are encoded and d delivered, g gates garbled and v evaluated
  pub record Stage (e d g v : ℕ) (s : State L) : Type 0 where
    pub garbler : s.garbler ≡ reached K c e g
    pub evaluator : s.evaluator ≡ reached K copied d v
    pub enough : Enough s
    pub garbler_count : s.garbler_count ≡ counted 0 (1 + c.sizes.inputs + sum_below (garble_calls c) g)
    pub evaluator_count : s.evaluator_count ≡ counted 0 (sum_below (evaluate_calls c) v)

  -- the colours that are shown are bits, one for each output
  pub record Shown (z : State L) : Type 0 where
    pub count : z.shown ≡ Some c.sizes.outputs
    pub long : length (take c.sizes.outputs z.colours) ≡ c.sizes.outputs
    pub bits : all_below (λ i. get_or (take c.sizes.outputs z.colours) i 0) c.sizes.outputs 2 ≡ true

  -- all inputs and all gates are done
  abbrev pub Whole : State L → Type 0
  Whole z = Stage c.sizes.inputs c.sizes.inputs c.sizes.gates c.sizes.gates z

  module _ (passes : circuit_refusal bytes ≡ None) (few : c.sizes.inputs ≤ 256) (F E : L → ℕ → L) (s : State L) (a : Answer L) (t : State L) where
    kept : (call : Call) → refusal s K bytes call ≡ None → Accepted K bytes s a t F E call → Enough s → Enough t
    kept call free acc e = enough_still s t (accepted_lengths K F E bytes s a t call free acc) e

    pub encode_on : (i b : ℕ) → i < c.sizes.inputs → b < 2 → Stage i 0 0 0 s → Step K F E bytes s (Encode i b) a t
        → (a ≡ Encoded (encoded K s.offset s.zeros i b)) × Stage (suc i) 0 0 0 t
    encode_on i b there small stage step =
        let free : refusal s K bytes (Encode i b) ≡ None = encode_passes K bytes passes i (length s.zeros) b there few (at_least _ _ stage.enough.zeros) s.garbler stage.garbler small in
        let acc = (step.made refl).accepted free in (
          acc.answer,
          record {
            garbler = marks_on K c i 0 s.garbler t.garbler stage.garbler (ap (λ (z : State L). z.garbler) acc.leaves);
            evaluator = ap (λ (z : State L). z.evaluator) acc.leaves ∙ stage.evaluator;
            enough = kept (Encode i b) free acc stage.enough;
            garbler_count = ap (λ (z : State L). z.garbler_count) acc.leaves ∙ stage.garbler_count;
            evaluator_count = ap (λ (z : State L). z.evaluator_count) acc.leaves ∙ stage.evaluator_count;
          },
        )

    pub deliver_on : (i : ℕ) → i < c.sizes.inputs → Stage c.sizes.inputs i 0 0 s → Step K F E bytes s (Deliver i) a t
        → (a ≡ Delivered) × Stage c.sizes.inputs (suc i) 0 0 t
    deliver_on i there stage step =
        let n = inputs_copy bytes passes in
        let w = wires_copy bytes passes in
        let room = stage.enough.labels in
        let sent : is_marked s.garbler.marks i ≡ true = ap (λ (z : Side). is_marked z.marks i) stage.garbler ∙ is_below c.sizes.inputs i few there in
        let free : refusal s K bytes (Deliver i) ≡ None = deliver_passes K (open_copy bytes) (passes_open bytes passes) i (length s.labels) (omega arith) (omega arith) (omega arith) s.evaluator stage.evaluator in
        let acc = (step.made (or_true (leb s.garbler.sizes.inputs i) (is_marked s.garbler.marks i) sent)).accepted free in (
          acc.answer,
          record {
            garbler = ap (λ (z : State L). z.garbler) acc.leaves ∙ stage.garbler;
            evaluator = marks_on K copied i 0 s.evaluator t.evaluator stage.evaluator (ap (λ (z : State L). z.evaluator) acc.leaves);
            enough = kept (Deliver i) free acc stage.enough;
            garbler_count = ap (λ (z : State L). z.garbler_count) acc.leaves ∙ stage.garbler_count;
            evaluator_count = ap (λ (z : State L). z.evaluator_count) acc.leaves ∙ stage.evaluator_count;
          },
        )

    pub garble_on : (g : ℕ) → g < c.sizes.gates → Stage c.sizes.inputs c.sizes.inputs g 0 s → Step K F E bytes s (Garble 256 (bytes_in K c c.sizes.gates)) a t
        → (a ≡ Garbled (gate_bits (8 * K.width) (form_of c g)) (gate_bytes (8 * K.width) (form_of c g))) × Stage c.sizes.inputs c.sizes.inputs (suc g) 0 t
    garble_on g there stage step =
        let m : ℕ = bytes_in K c c.sizes.gates in
        let here : s.garbler.next ≡ g = ap (λ (z : Side). z.next) stage.garbler in
        let e = stage.enough in
        let scratch = length-take-le 256 s.scratch (at_least _ _ e.scratch) in
        let long = e.material in
        let material : length (take m s.material) ≡ m = length-take-le m s.material (omega arith) in
        let free : refusal s K bytes (Garble 256 m) ≡ None = garble_passes K bytes passes g (length s.zeros) (length (take 256 s.scratch)) (length (take m s.material)) there (at_least _ _ e.zeros) (omega arith) material c.sizes.inputs s.garbler stage.garbler in
        let acc = (step.made refl).accepted free in (
          acc.answer ∙ ap (λ (n : ℕ). Garbled (gate_bits (8 * K.width) (form_of c n)) (gate_bytes (8 * K.width) (form_of c n))) here,
          record {
            garbler = steps_on K c c.sizes.inputs g s.garbler t.garbler stage.garbler (ap (λ (z : State L). z.garbler) acc.leaves);
            evaluator = ap (λ (z : State L). z.evaluator) acc.leaves ∙ stage.evaluator;
            enough = kept (Garble 256 m) free acc e;
            garbler_count = ap (λ (z : State L). z.garbler_count) acc.leaves ∙ ap₂ (λ (x n : ℕ). counted x (garble_calls c n)) stage.garbler_count here
                ∙ counted_on (1 + c.sizes.inputs + sum_below (garble_calls c) g) (garble_calls c g)
                ∙ ap (counted 0) (add_assoc (1 + c.sizes.inputs) (sum_below (garble_calls c) g) (garble_calls c g));
            evaluator_count = ap (λ (z : State L). z.evaluator_count) acc.leaves ∙ stage.evaluator_count;
          },
        )

    pub evaluate_on : (v : ℕ) → v < c.sizes.gates → Stage c.sizes.inputs c.sizes.inputs c.sizes.gates v s → Step K F E bytes s (Evaluate 256) a t
        → (a ≡ Evaluated (gate_bytes (8 * K.width) (form_of c v))) × Stage c.sizes.inputs c.sizes.inputs c.sizes.gates (suc v) t
    evaluate_on v there stage step =
        let here : s.evaluator.next ≡ v = ap (λ (z : Side). z.next) stage.evaluator in
        let e = stage.enough in
        let i = inputs_copy bytes passes in
        let q = gates_copy bytes passes in
        let w = wires_copy bytes passes in
        let scratch = length-take-le 256 s.scratch (at_least _ _ e.scratch) in
        let room = e.labels in
        let long = e.material in
        let written : s.garbler.bytes ≡ bytes_in K c c.sizes.gates = ap (λ (z : Side). z.bytes) stage.garbler in
        let whole : bytes_in K copied copied.sizes.gates ≡ bytes_in K c c.sizes.gates = ap (bytes_in K copied) q ∙ bytes_copy bytes passes K c.sizes.gates in
        let material : length (take s.garbler.bytes s.material) ≡ s.garbler.bytes = length-take-le s.garbler.bytes s.material (omega arith) in
        let own : s.evaluator ≡ reached K copied copied.sizes.inputs v = stage.evaluator ∙ ap (λ (n : ℕ). reached K copied n v) (sym i) in
        let free : refusal s K bytes (Evaluate 256) ≡ None =
        evaluate_passes K (open_copy bytes) (passes_open bytes passes) v (length s.labels) (length (take 256 s.scratch)) (length (take s.garbler.bytes s.material)) (omega arith) (omega arith) (omega arith) (omega arith) (omega arith) s.evaluator own in
        let acc = (step.made refl).accepted free in (
          acc.answer ∙ ap Evaluated (ap (λ (n : ℕ). gate_bytes (8 * K.width) (form_of copied n)) here ∙ gate_bytes_copy bytes passes K v),
          record {
            garbler = ap (λ (z : State L). z.garbler) acc.leaves ∙ stage.garbler;
            evaluator = steps_on K copied c.sizes.inputs v s.evaluator t.evaluator stage.evaluator (ap (λ (z : State L). z.evaluator) acc.leaves);
            enough = kept (Evaluate 256) free acc e;
            garbler_count = ap (λ (z : State L). z.garbler_count) acc.leaves ∙ stage.garbler_count;
            evaluator_count = ap (λ (z : State L). z.evaluator_count) acc.leaves ∙ ap₂ (λ (x n : ℕ). counted x (evaluate_calls copied n)) stage.evaluator_count here
                ∙ ap (counted (counted 0 (sum_below (evaluate_calls c) v))) (calls_copy bytes passes v)
                ∙ counted_on (sum_below (evaluate_calls c) v) (evaluate_calls c v);
          },
        )

    pub colours_on : Whole s → Step K F E bytes s (Colours c.sizes.outputs) a t → (a ≡ Coloured) × Whole t × Shown t
    colours_on stage step =
        let n : ℕ = c.sizes.outputs in
        let e = stage.enough in
        let room : length (take n s.colours) ≡ n = length-take-le n s.colours (at_least _ _ e.colours) in
        let free : refusal s K bytes (Colours n) ≡ None = colours_passes K bytes passes (length s.zeros) (length (take n s.colours)) (at_least _ _ e.zeros) room c.sizes.inputs s.garbler stage.garbler in
        let acc = (step.made refl).accepted free in
        let list : List ℕ = colours_of K s.zeros c.outputs n in
        let made : t.colours ≡ list ++ drop n s.colours = ap (λ (z : State L). z.colours) acc.leaves ∙ ap (λ (k : ℕ). colours_of K s.zeros c.outputs k ++ drop n s.colours) room in
        let long : length list ≡ n = colours_long K s.zeros c.outputs n in
        let front : take n t.colours ≡ list = ap (take n) made ∙ take_at list (drop n s.colours) n long in (
          acc.answer,
          record {
            garbler = ap (λ (z : State L). z.garbler) acc.leaves ∙ stage.garbler;
            evaluator = ap (λ (z : State L). z.evaluator) acc.leaves ∙ stage.evaluator;
            enough = kept (Colours n) free acc e;
            garbler_count = ap (λ (z : State L). z.garbler_count) acc.leaves ∙ stage.garbler_count;
            evaluator_count = ap (λ (z : State L). z.evaluator_count) acc.leaves ∙ stage.evaluator_count;
          },
          record {
            count = ap (λ (z : State L). z.shown) acc.leaves ∙ ap Some room;
            long = ap length front ∙ long;
            bits = ap (λ (xs : List ℕ). all_below (λ i. get_or xs i 0) n 2) front ∙ colours_small K s.zeros c.outputs n;
          },
        )

    pub decode_on : Whole s → Shown s → Step K F E bytes s (Decode c.sizes.outputs) a t → (a ≡ Decoded) × Whole t × (t.decoded ≡ true) × (t.colours ≡ s.colours)
    decode_on stage shown step =
        let n : ℕ = c.sizes.outputs in
        let e = stage.enough in
        let i = inputs_copy bytes passes in
        let q = gates_copy bytes passes in
        let o = outputs_copy bytes passes in
        let w = wires_copy bytes passes in
        let zeros_room = e.labels in
        let room : length (take n s.outputs) ≡ n = length-take-le n s.outputs (at_least _ _ e.outputs) in
        let cs : List ℕ = take n s.colours in
        let long = shown.long in
        let bits : all_below (λ k. get_or cs k 0) (length cs) 2 ≡ true = ap (λ (k : ℕ). all_below (λ k. get_or cs k 0) k 2) long ∙ shown.bits in
        let own : s.evaluator ≡ reached K copied copied.sizes.inputs copied.sizes.gates = stage.evaluator ∙ ap₂ (reached K copied) (sym i) (sym q) in
        let given : decode_refusal s.evaluator (open_copy bytes) (length s.labels) cs (length (take n s.outputs)) ≡ None =
        decode_passes K (open_copy bytes) (passes_open bytes passes) (length s.labels) cs (length (take n s.outputs)) (omega arith) (omega arith) (omega arith) (omega arith) bits s.evaluator own in
        let free : refusal s K bytes (Decode n) ≡ None = ap (λ (k : Option ℕ). decode_refusal s.evaluator (open_copy bytes) (length s.labels) (colours_by k s.colours) (length (take n s.outputs))) shown.count ∙ given in
        let acc = (step.made (ap is_shown shown.count)).accepted free in (
          acc.answer,
          record {
            garbler = ap (λ (z : State L). z.garbler) acc.leaves ∙ stage.garbler;
            evaluator = ap (λ (z : State L). z.evaluator) acc.leaves ∙ stage.evaluator;
            enough = kept (Decode n) free acc e;
            garbler_count = ap (λ (z : State L). z.garbler_count) acc.leaves ∙ stage.garbler_count;
            evaluator_count = ap (λ (z : State L). z.evaluator_count) acc.leaves ∙ stage.evaluator_count;
          },
          ap (λ (z : State L). z.decoded) acc.leaves,
          ap (λ (z : State L). z.colours) acc.leaves,
        )

    -- the one refusal that is left is that of its label
    label_only : (o : ℕ) → certify_refusal s.garbler bytes K s.offset s.zeros o (output_label s K bytes o) ≡ first_of ((is_foreign K s.offset (places K s.zeros (output_of c o)) (output_label s K bytes o), Foreign) ∷ [])
        → (b : Bool) → is_foreign K s.offset (places K s.zeros (output_of c o)) (output_label s K bytes o) ≡ b → Step K F E bytes s (Certify o) a t → s.decoded ≡ true → a ≢ Refused Foreign → IsCertified a × (t ≡ s)
    label_only o only true e step decoded known =
        absurd (known ((step.made decoded).refused Foreign (only ∙ ap (λ (q : Bool). first_of ((q, Foreign) ∷ [])) e)).0)
    label_only o only false e step decoded known =
        let acc = (step.made decoded).accepted (only ∙ ap (λ (q : Bool). first_of ((q, Foreign) ∷ [])) e) in
        (record { bit = _; answer = acc.answer }, acc.leaves)

    pub certify_on : (o : ℕ) → o < c.sizes.outputs → Whole s → s.decoded ≡ true → Step K F E bytes s (Certify o) a t → a ≢ Refused Foreign
        → IsCertified a × (Whole t × (t.decoded ≡ true)) × (t ≡ s)
    certify_on o there stage decoded step known =
        let free = certify_passes K bytes passes (length s.zeros) o there (at_least _ _ stage.enough.zeros) c.sizes.inputs s.garbler stage.garbler in
        let foreign : Bool = is_foreign K s.offset (places K s.zeros (output_of c o)) (output_label s K bytes o) in
        let only = ap (λ (q : Option Refusal). or_else q (first_of ((foreign, Foreign) ∷ []))) free in
        let p = label_only o only foreign refl step decoded known in
        (p.0, (subst (λ (z : State L). Whole z) (sym p.1) stage, ap (λ (z : State L). z.decoded) p.1 ∙ decoded), p.1)
