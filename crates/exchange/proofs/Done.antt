-- What a whole settlement leaves. Assumes nothing.
use Rattle.std.proofs.Common.{◌≡◌, ℕ, zero, suc, ◌+◌, ◌*◌, ◌-◌, ◌<◌, ◌≤◌, Bool, true, cond, eqb, ltb, List, None, get_or, refl, sym, ap, ◌∙◌, inl, inr, arith}
use Rattle.std.specs.Prelude.{slice_index}
use Rattle.std.proofs.lemmas.Bool.{cases_eq, cases_lt, lt-ltb, le-ltb, eq-eqb, ne_eqb}
use Rattle.std.proofs.lemmas.List.{take_all}
use Rattle.labels.specs.Kind.{Kind, times}
use Rattle.labels.specs.Numbers.{digit}
use Rattle.hashes.specs.Count.{counted}
use Rattle.hashes.specs.Draws.{offset}
use Rattle.circuit.specs.Words.{sum_below}
use Rattle.circuit.specs.Parts.{Parts, parts_of}
use Rattle.circuit.specs.Gates.{output_of, made_before, wires_in}
use Rattle.circuit.specs.Check.{circuit_refusal, bytes_in}
use Rattle.plain.specs.Plain.{bit_in, plain_bit}
use Rattle.steps.specs.Gate.{garble_calls, evaluate_calls}
use Rattle.steps.specs.Whole.{zero_label, input_label, label, material_before}
use Rattle.labels.specs.Lists.{places}
use Rattle.memory.specs.Copy.{open_copy}
use Rattle.laws.proofs.Ordered.{Ordered}
use Rattle.laws.proofs.Order.{ordered_check}
use Rattle.laws.proofs.Bits.{plain_same}
use Rattle.laws.proofs.Sounds.{circuit_sound}
use Rattle.parties.specs.declared.side.Side.{Side}
use Rattle.parties.specs.Marks.{is_marked}
use Rattle.settlement.specs.State.{State}
use Rattle.settlement.specs.Lines.{call_at, line_at, is_accepted}
use Rattle.settlement.specs.Runs.{Settlement}
use Rattle.settlement.specs.Claims.{noted, accepted_at, given, bit_of, garbler_made, evaluator_made, Claims, LineClaims}
use Rattle.settlement.specs.declared.call.Call.{Call}
use Rattle.settlement.specs.declared.call.Call.TheVariants.{Encode}
use Rattle.settlement.specs.declared.line.Answer.{Answer}
use Rattle.settlement.specs.declared.line.Answer.TheVariants.{Garbled, Encoded, Delivered, Evaluated, Coloured, Decoded, Certified}
use Rattle.settlement.proofs.Circuits.{outputs_made}
use Rattle.exchange.specs.Course.{calls_in, by_turn, course_line, bits_of_gate, bytes_of_gate}
use Rattle.exchange.proofs.Marks.{marks_below, is_below}
use Rattle.exchange.proofs.Copies.{inputs_copy, wires_copy, gates_copy}
use Rattle.exchange.proofs.Turns.{at_encode, at_deliver, at_garble, at_evaluate, at_colours, at_decode, at_certify, unnoted, each_turn}
use Rattle.exchange.proofs.Stages.{Whole}
use Rattle.exchange.proofs.Phases.{Course, encodes, delivers, garbles, evaluates, coloured, ends, encode_answers, deliver_answers, garble_answers, evaluate_answers, certifies, colours_shown, colours_kept, certify_leaves, certify_answers, colours_answer, decode_answer}

module _ {L : Type 0} (K : Kind L) (r : Settlement L) (bits : List ℕ) (h : Course K r bits)
    (claims : (k : ℕ) → k ≤ calls_in (parts_of r.circuit).sizes → Claims K r k) (lines : (k : ℕ) → k < calls_in (parts_of r.circuit).sizes → LineClaims K r k) where
  abbrev c : Parts
  c = parts_of r.circuit

  abbrev inputs : ℕ
  inputs = c.sizes.inputs

  abbrev gates : ℕ
  gates = c.sizes.gates

  abbrev n : ℕ
  n = calls_in c.sizes

  abbrev F : L → ℕ → L
  F = r.garbler_hash

  abbrev seed : L
  seed = (r.at 0).seed

  passes : circuit_refusal r.circuit ≡ None
  passes = h.ran.begun.passes

  -- the inputs' bits
  noted_at : (k i : ℕ) → k < inputs → given r (suc k) i ≡ cond (eqb i k) (eqb (get_or bits k 0) 1) (given r k i)
  noted_at k i l =
      let e : call_at r.calls k ≡ Encode k (get_or bits k 0) = h.calls k (omega arith) ∙ at_encode c.sizes _ _ _ _ _ _ _ k l in
      let q : accepted_at r k ≡ true = ap is_accepted (encode_answers K r bits h k l) in
      (λ j. noted (e j) (q j) (given r k) i)

  given_is : (k i : ℕ) → k ≤ inputs → i < k → given r k i ≡ bit_in bits i
  given_is zero i l b = absurd (omega arith)
  given_is (suc k) i l b =
      elim (cases_eq i k) [
        | inl p ↦ noted_at k i (omega arith) ∙ ap (λ (q : Bool). cond q (eqb (get_or bits k 0) 1) (given r k i)) (eq-eqb i k p) ∙ ap (bit_in bits) (sym p)
        | inr q ↦ noted_at k i (omega arith) ∙ ap (λ (q : Bool). cond q (eqb (get_or bits k 0) 1) (given r k i)) (ne_eqb i k q) ∙ given_is k i (omega arith) (omega arith)
      ]

  given_later : (m : ℕ) → inputs + m ≤ n → given r (inputs + m) ≡ given r inputs
  given_later zero l = ap (given r) (let e : inputs + 0 ≡ inputs = omega arith in e)
  given_later (suc m) l =
      let k : ℕ = inputs + m in
      let e : inputs + suc m ≡ suc k = omega arith in
      ap (given r) e
      ∙ ap (λ (d : Call). noted d (accepted_at r k) (given r k)) (h.calls k (omega arith))
      ∙ unnoted c.sizes (bytes_in K c gates) bits k (accepted_at r k) (given r k) (omega arith)
      ∙ given_later m (omega arith)

  given_past : (k i : ℕ) → inputs ≤ k → k ≤ n → i < inputs → given r k i ≡ bit_in bits i
  given_past k i a b l =
      let e : k ≡ inputs + (k - inputs) = omega arith in
      ap (λ (m : ℕ). given r m i) e ∙ ap (λ (x : ℕ → Bool). x i) (given_later (k - inputs) (omega arith)) ∙ given_is inputs i (omega arith) l

  ordered : Ordered c
  ordered = ordered_check r.circuit passes

  bit_past : (k w : ℕ) → inputs ≤ k → k ≤ n → w < wires_in c → bit_of r k w ≡ plain_bit c (bit_in bits) w
  bit_past k w a b l = plain_same c (given r k) (bit_in bits) ordered (λ i h. given_past k i a b h) w l

  -- what the memories hold
  end_stage : Whole K r.circuit (r.at n)
  end_stage = ends K r bits h

  all_garbled : (w : ℕ) → w < wires_in c → garbler_made (r.at n) w ≡ true
  all_garbled w l = ap (λ (z : Side). ltb w z.made) end_stage.garbler ∙ lt-ltb w (wires_in c) l

  all_evaluated : (w : ℕ) → w < wires_in c → evaluator_made (r.at n) w ≡ true
  all_evaluated w l =
      let i = inputs_copy r.circuit passes in
      let q = gates_copy r.circuit passes in
      let v = wires_copy r.circuit passes in
      let copied : Parts = parts_of (open_copy r.circuit) in
      let all : wires_in c ≡ made_before copied gates = sym v ∙ ap (made_before copied) q in
      ap (λ (z : Side). cond (ltb w z.sizes.inputs) (is_marked z.marks w) (ltb w z.made)) end_stage.evaluator
      ∙ elim (cases_lt w copied.sizes.inputs) [
        | inl lt ↦ ap (λ (q : Bool). cond q (is_marked (marks_below inputs) w) (ltb w (made_before copied gates))) (lt-ltb w copied.sizes.inputs lt) ∙ is_below inputs w h.few (omega arith)
        | inr ge ↦ ap (λ (q : Bool). cond q (is_marked (marks_below inputs) w) (ltb w (made_before copied gates))) (le-ltb w copied.sizes.inputs ge) ∙ lt-ltb w (made_before copied gates) (omega arith)
      ]

  pub zeros_end : (w : ℕ) → w < wires_in c → places K (r.at n).zeros w ≡ zero_label K F seed c w
  zeros_end w l = (claims n (omega arith)).zeros w (all_garbled w l)

  pub labels_end : (w : ℕ) → w < wires_in c → places K (r.at n).labels w ≡ label K F seed c (bit_in bits) w
  labels_end w l =
      let d = claims n (omega arith) in
      let colour : K.colour (offset F seed K) ≡ true = ap K.colour (sym h.ran.begun.offset_is) ∙ h.ran.begun.coloured in
      d.labels w l (all_garbled w l) (all_evaluated w l)
      ∙ (λ j. K.xor (zeros_end w l j) (times K (bit_past n w (omega arith) (omega arith) l j) (d.offset_is j)))
      ∙ sym (circuit_sound K F seed c ordered colour (bit_in bits) w l)

  pub material_end : (r.at n).material ≡ material_before K F seed c gates
  material_end =
      let d = claims n (omega arith) in
      let long = end_stage.enough.material in
      let bytes : (r.at n).garbler.bytes ≡ bytes_in K c gates = ap (λ (z : Side). z.bytes) end_stage.garbler in
      let next : (r.at n).garbler.next ≡ gates = ap (λ (z : Side). z.next) end_stage.garbler in
      sym (take_all (r.at n).garbler.bytes (r.at n).material (omega arith)) ∙ d.material ∙ ap (material_before K F seed c) next

  -- the certifies leave all as it is
  still : (m : ℕ) → m ≤ c.sizes.outputs → r.at (2 * inputs + 2 * gates + 2 + m) ≡ r.at (2 * inputs + 2 * gates + 2)
  still zero l = ap r.at (let e : 2 * inputs + 2 * gates + 2 + 0 ≡ 2 * inputs + 2 * gates + 2 = omega arith in e)
  still (suc m) l =
      let e : 2 * inputs + 2 * gates + 2 + suc m ≡ suc (2 * inputs + 2 * gates + 2 + m) = omega arith in
      ap r.at e ∙ certify_leaves K r bits h m (omega arith) ∙ still m (omega arith)

  once_decoded : r.at n ≡ r.at (suc (2 * inputs + 2 * gates + 1))
  once_decoded =
      let a : n ≡ 2 * inputs + 2 * gates + 2 + c.sizes.outputs = omega arith in
      let b : 2 * inputs + 2 * gates + 2 ≡ suc (2 * inputs + 2 * gates + 1) = omega arith in
      ap r.at a ∙ still c.sizes.outputs (omega arith) ∙ ap r.at b

  pub colours_end : (o : ℕ) → o < c.sizes.outputs → slice_index (r.at n).colours o ≡ digit (K.colour (zero_label K F seed c (output_of c o)))
  colours_end o l =
      ap (λ (z : State L). slice_index z.colours o) once_decoded
      ∙ ap (λ (xs : List ℕ). slice_index xs o) (colours_kept K r bits h)
      ∙ (lines (2 * inputs + 2 * gates) (omega arith)).colours c.sizes.outputs (colours_shown K r bits h) o l

  pub outputs_end : (o : ℕ) → o < c.sizes.outputs → slice_index (r.at n).outputs o ≡ digit (plain_bit c (bit_in bits) (output_of c o))
  outputs_end o l =
      let k : ℕ = 2 * inputs + 2 * gates + 1 in
      ap (λ (z : State L). slice_index z.outputs o) once_decoded
      ∙ (lines k (omega arith)).decodes (decode_answer K r bits h) o l
      ∙ ap digit (bit_past (suc k) (output_of c o) (omega arith) (omega arith) (outputs_made r.circuit passes o l))

  -- what the lines say
  abbrev Line_is : ℕ → Type 0
  Line_is k = line_at r.lines k ≡ course_line K F seed c bits k

  -- of call k, from its answer and from the counts after it
  line_from : (k g v : ℕ) (a : Answer L) (s : State L) → k < n → (line_at r.lines k).answer ≡ a
      → s.garbler_count ≡ counted 0 (1 + inputs + sum_below (garble_calls c) g) → s.evaluator_count ≡ counted 0 (sum_below (evaluate_calls c) v)
      → r.at (suc k) ≡ s → (course_line K F seed c bits k).answer ≡ a
      → by_turn c.sizes k (λ i. 0) (λ i. 0) (λ g. g + 1) (λ g. gates) gates gates (λ o. gates) ≡ g
      → by_turn c.sizes k (λ i. 0) (λ i. 0) (λ g. 0) (λ g. g + 1) gates gates (λ o. gates) ≡ v
      → Line_is k
  line_from k g v a s l answer garbled evaluated at wanted eg ev =
      let x = answer ∙ sym wanted in
      let y = h.ran.follows.garbler_counts k l ∙ ap (λ (z : State L). z.garbler_count) at ∙ garbled ∙ ap (λ (m : ℕ). counted 0 (1 + inputs + sum_below (garble_calls c) m)) (sym eg) in
      let z = h.ran.follows.evaluator_counts k l ∙ ap (λ (z : State L). z.evaluator_count) at ∙ evaluated ∙ ap (λ (m : ℕ). counted 0 (sum_below (evaluate_calls c) m)) (sym ev) in
      (λ j. record { answer = x j; garbler_count = y j; evaluator_count = z j })

  encode_line : (i : ℕ) → i < inputs → Line_is i
  encode_line i l =
      let s = encodes K r bits h (suc i) l in
      let d = (lines i (omega arith)).encodes i (get_or bits i 0) _ (h.calls i (omega arith) ∙ at_encode c.sizes _ _ _ _ _ _ _ i l) (encode_answers K r bits h i l) in
      line_from i 0 0 (Encoded (input_label K F seed c (bit_in bits) i)) (r.at (suc i)) (omega arith)
      (encode_answers K r bits h i l ∙ ap Encoded (d ∙ ap (λ (Δ : L). K.xor (zero_label K F seed c i) (times K (bit_in bits i) Δ)) h.ran.begun.offset_is))
      s.garbler_count s.evaluator_count refl
      (at_encode c.sizes _ _ _ _ _ _ _ i l) (at_encode c.sizes _ _ _ _ _ _ _ i l) (at_encode c.sizes _ _ _ _ _ _ _ i l)

  deliver_line : (i : ℕ) → i < inputs → Line_is (inputs + i)
  deliver_line i l =
      let s = delivers K r bits h (suc i) l in
      let e : suc (inputs + i) ≡ inputs + suc i = omega arith in
      line_from (inputs + i) 0 0 Delivered (r.at (inputs + suc i)) (omega arith) (deliver_answers K r bits h i l)
      s.garbler_count s.evaluator_count (ap r.at e)
      (at_deliver c.sizes _ _ _ _ _ _ _ i l) (at_deliver c.sizes _ _ _ _ _ _ _ i l) (at_deliver c.sizes _ _ _ _ _ _ _ i l)

  garble_line : (g : ℕ) → g < gates → Line_is (2 * inputs + g)
  garble_line g l =
      let s = garbles K r bits h (suc g) l in
      let e : suc (2 * inputs + g) ≡ 2 * inputs + suc g = omega arith in
      let more : g + 1 ≡ suc g = omega arith in
      line_from (2 * inputs + g) (suc g) 0 (Garbled (bits_of_gate K F seed c bits g) (bytes_of_gate K F seed c bits g)) (r.at (2 * inputs + suc g)) (omega arith) (garble_answers K r bits h g l)
      s.garbler_count s.evaluator_count (ap r.at e)
      (at_garble c.sizes _ _ _ _ _ _ _ g l) (at_garble c.sizes _ _ _ _ _ _ _ g l ∙ more) (at_garble c.sizes _ _ _ _ _ _ _ g l)

  evaluate_line : (v : ℕ) → v < gates → Line_is (2 * inputs + gates + v)
  evaluate_line v l =
      let s = evaluates K r bits h (suc v) l in
      let e : suc (2 * inputs + gates + v) ≡ 2 * inputs + gates + suc v = omega arith in
      let more : v + 1 ≡ suc v = omega arith in
      line_from (2 * inputs + gates + v) gates (suc v) (Evaluated (bytes_of_gate K F seed c bits v)) (r.at (2 * inputs + gates + suc v)) (omega arith) (evaluate_answers K r bits h v l)
      s.garbler_count s.evaluator_count (ap r.at e)
      (at_evaluate c.sizes _ _ _ _ _ _ _ v l) (at_evaluate c.sizes _ _ _ _ _ _ _ v l) (at_evaluate c.sizes _ _ _ _ _ _ _ v l ∙ more)

  colours_line : Line_is (2 * inputs + 2 * gates)
  colours_line =
      let s = coloured K r bits h in
      line_from (2 * inputs + 2 * gates) gates gates Coloured (r.at (suc (2 * inputs + 2 * gates))) (omega arith) (colours_answer K r bits h)
      s.garbler_count s.evaluator_count refl
      (at_colours c.sizes _ _ _ _ _ _ _) (at_colours c.sizes _ _ _ _ _ _ _) (at_colours c.sizes _ _ _ _ _ _ _)

  decode_line : Line_is (2 * inputs + 2 * gates + 1)
  decode_line =
      let s = (certifies K r bits h 0 (omega arith)).0 in
      let e : suc (2 * inputs + 2 * gates + 1) ≡ 2 * inputs + 2 * gates + 2 + 0 = omega arith in
      line_from (2 * inputs + 2 * gates + 1) gates gates Decoded (r.at (2 * inputs + 2 * gates + 2 + 0)) (omega arith) (decode_answer K r bits h)
      s.garbler_count s.evaluator_count (ap r.at e)
      (at_decode c.sizes _ _ _ _ _ _ _) (at_decode c.sizes _ _ _ _ _ _ _) (at_decode c.sizes _ _ _ _ _ _ _)

  certify_line : (o : ℕ) → o < c.sizes.outputs → Line_is (2 * inputs + 2 * gates + 2 + o)
  certify_line o l =
      let k : ℕ = 2 * inputs + 2 * gates + 2 + o in
      let s = (certifies K r bits h (suc o) l).0 in
      let e : suc k ≡ 2 * inputs + 2 * gates + 2 + suc o = omega arith in
      let a = certify_answers K r bits h o l in
      let d = (lines k (omega arith)).certifies o a.bit (h.calls k (omega arith) ∙ at_certify c.sizes _ _ _ _ _ _ _ o) a.answer in
      line_from k gates gates (Certified (plain_bit c (bit_in bits) (output_of c o))) (r.at (2 * inputs + 2 * gates + 2 + suc o)) (omega arith)
      (a.answer ∙ ap Certified (d ∙ bit_past k (output_of c o) (omega arith) (omega arith) (outputs_made r.circuit passes o l)))
      s.garbler_count s.evaluator_count (ap r.at e)
      (at_certify c.sizes _ _ _ _ _ _ _ o) (at_certify c.sizes _ _ _ _ _ _ _ o) (at_certify c.sizes _ _ _ _ _ _ _ o)

  pub lines_end : (k : ℕ) → k < n → line_at r.lines k ≡ course_line K F seed c bits k
  lines_end k l = each_turn c.sizes Line_is encode_line deliver_line garble_line evaluate_line colours_line decode_line certify_line k l
