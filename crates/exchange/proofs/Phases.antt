-- A whole settlement, call by call. Assumes nothing.
use Rattle.std.proofs.Common.{◌≡◌, ◌≢◌, ℕ, zero, suc, ◌+◌, ◌*◌, ◌<◌, ◌≤◌, true, List, get_or, ◌∙◌, subst, arith, Some, ap}
use Rattle.labels.specs.Kind.{Kind}
use Rattle.circuit.specs.Parts.{Parts, parts_of}
use Rattle.circuit.specs.Gates.{form_of}
use Rattle.circuit.specs.Material.{gate_bits, gate_bytes}
use Rattle.circuit.specs.Check.{bytes_in}
use Rattle.circuit.specs.declared.refusal.Refusal.TheVariants.{Foreign}
use Rattle.memory.specs.Copy.{open_copy}
use Rattle.garbler.specs.Garbling.{encoded}
use Rattle.settlement.specs.Lines.{call_at, line_at}
use Rattle.settlement.specs.Made.{Step}
use Rattle.settlement.specs.Runs.{Settlement, Ran}
use Rattle.settlement.specs.declared.call.Call.{Call}
use Rattle.settlement.specs.declared.call.Call.TheVariants.{Garble, Encode, Deliver, Evaluate, Colours, Decode, Certify}
use Rattle.settlement.specs.declared.line.Answer.TheVariants.{Refused, Garbled, Encoded, Delivered, Evaluated, Coloured, Decoded}
use Rattle.settlement.specs.State.{State}
use Rattle.exchange.specs.Course.{calls_in, course}
use Rattle.exchange.proofs.Turns.{at_encode, at_deliver, at_garble, at_evaluate, at_colours, at_decode, at_certify}
use Rattle.exchange.proofs.Reached.{starts}
use Rattle.exchange.proofs.Stages.{Enough, Stage, Shown, Whole, encode_on, deliver_on, garble_on, evaluate_on, IsCertified, colours_on, decode_on, certify_on}

module _ {L : Type 0} (K : Kind L) (r : Settlement L) (bits : List ℕ) where
  abbrev c : Parts
  c = parts_of r.circuit

  abbrev inputs : ℕ
  inputs = c.sizes.inputs

  abbrev gates : ℕ
  gates = c.sizes.gates

  abbrev call : ℕ → Call
  call = course c.sizes (bytes_in K c gates) bits

  -- the calls are those of a whole settlement, on new hashes and memory enough
  pub record Course : Type 0 where
    pub ran : Ran K r (calls_in c.sizes)
    pub calls : (k : ℕ) → k < calls_in c.sizes → call_at r.calls k ≡ call k
    pub few : inputs ≤ 256
    pub small : (i : ℕ) → i < inputs → get_or bits i 0 < 2
    pub enough : Enough K r.circuit (r.at 0)
    -- no certify is refused for its label
    pub known : (k o : ℕ) → k < calls_in c.sizes → call_at r.calls k ≡ Certify o → (line_at r.lines k).answer ≢ Refused Foreign
    pub garbler_new : r.garbler_came ≡ 0
    pub evaluator_new : r.evaluator_came ≡ 0

  module _ (h : Course) where
    -- call k is made
    made : (k : ℕ) (d : Call) → k < calls_in c.sizes → call k ≡ d → Step K r.garbler_hash r.evaluator_hash r.circuit (r.at k) d (line_at r.lines k).answer (r.at (suc k))
    made k d l e = subst (λ (q : Call). Step K r.garbler_hash r.evaluator_hash r.circuit (r.at k) q (line_at r.lines k).answer (r.at (suc k))) (h.calls k l ∙ e) (h.ran.follows.step k l)

    first : Stage K r.circuit 0 0 0 0 (r.at 0)
    first = record {
      garbler = h.ran.begun.garbler ∙ starts K c;
      evaluator = h.ran.begun.evaluator ∙ starts K (parts_of (open_copy r.circuit));
      enough = h.enough;
      garbler_count = h.ran.begun.garbler_count ∙ let e = h.garbler_new in omega arith;
      evaluator_count = h.ran.begun.evaluator_count ∙ let e = h.evaluator_new in omega arith;
    }

    at_step : (k n : ℕ) (P : State L → Type 0) → k ≡ n → P (r.at k) → P (r.at n)
    at_step k n P e p = subst (λ (m : ℕ). P (r.at m)) e p

    -- each phase: what a call answers, and how far both sides are after it
    encoding : (i : ℕ) → i < inputs → Stage K r.circuit i 0 0 0 (r.at i)
        → ((line_at r.lines i).answer ≡ Encoded (encoded K (r.at i).offset (r.at i).zeros i (get_or bits i 0))) × Stage K r.circuit (suc i) 0 0 0 (r.at (suc i))
    encoding i l stage =
        encode_on K r.circuit h.ran.begun.passes h.few r.garbler_hash r.evaluator_hash (r.at i) (line_at r.lines i).answer (r.at (suc i)) i (get_or bits i 0) l (h.small i l) stage
        (made i (Encode i (get_or bits i 0)) (omega arith) (at_encode c.sizes _ _ _ _ _ _ _ i l))

    pub encodes : (i : ℕ) → i ≤ inputs → Stage K r.circuit i 0 0 0 (r.at i)
    encodes zero l = first
    encodes (suc i) l = (encoding i (omega arith) (encodes i (omega arith))).1

    delivering : (i : ℕ) → i < inputs → Stage K r.circuit inputs i 0 0 (r.at (inputs + i))
        → ((line_at r.lines (inputs + i)).answer ≡ Delivered) × Stage K r.circuit inputs (suc i) 0 0 (r.at (suc (inputs + i)))
    delivering i l stage =
        deliver_on K r.circuit h.ran.begun.passes h.few r.garbler_hash r.evaluator_hash (r.at (inputs + i)) (line_at r.lines (inputs + i)).answer (r.at (suc (inputs + i))) i l stage
        (made (inputs + i) (Deliver i) (omega arith) (at_deliver c.sizes _ _ _ _ _ _ _ i l))

    pub delivers : (i : ℕ) → i ≤ inputs → Stage K r.circuit inputs i 0 0 (r.at (inputs + i))
    delivers zero l = at_step inputs (inputs + 0) (Stage K r.circuit inputs 0 0 0) (omega arith) (encodes inputs (omega arith))
    delivers (suc i) l = at_step (suc (inputs + i)) (inputs + suc i) (Stage K r.circuit inputs (suc i) 0 0) (omega arith) (delivering i (omega arith) (delivers i (omega arith))).1

    garbling : (g : ℕ) → g < gates → Stage K r.circuit inputs inputs g 0 (r.at (2 * inputs + g))
        → ((line_at r.lines (2 * inputs + g)).answer ≡ Garbled (gate_bits (8 * K.width) (form_of c g)) (gate_bytes (8 * K.width) (form_of c g)))
        × Stage K r.circuit inputs inputs (suc g) 0 (r.at (suc (2 * inputs + g)))
    garbling g l stage =
        garble_on K r.circuit h.ran.begun.passes h.few r.garbler_hash r.evaluator_hash (r.at (2 * inputs + g)) (line_at r.lines (2 * inputs + g)).answer (r.at (suc (2 * inputs + g))) g l stage
        (made (2 * inputs + g) (Garble 256 (bytes_in K c gates)) (omega arith) (at_garble c.sizes _ _ _ _ _ _ _ g l))

    pub garbles : (g : ℕ) → g ≤ gates → Stage K r.circuit inputs inputs g 0 (r.at (2 * inputs + g))
    garbles zero l = at_step (inputs + inputs) (2 * inputs + 0) (Stage K r.circuit inputs inputs 0 0) (omega arith) (delivers inputs (omega arith))
    garbles (suc g) l = at_step (suc (2 * inputs + g)) (2 * inputs + suc g) (Stage K r.circuit inputs inputs (suc g) 0) (omega arith) (garbling g (omega arith) (garbles g (omega arith))).1

    evaluating : (v : ℕ) → v < gates → Stage K r.circuit inputs inputs gates v (r.at (2 * inputs + gates + v))
        → ((line_at r.lines (2 * inputs + gates + v)).answer ≡ Evaluated (gate_bytes (8 * K.width) (form_of c v)))
        × Stage K r.circuit inputs inputs gates (suc v) (r.at (suc (2 * inputs + gates + v)))
    evaluating v l stage =
        let k : ℕ = 2 * inputs + gates + v in
        evaluate_on K r.circuit h.ran.begun.passes h.few r.garbler_hash r.evaluator_hash (r.at k) (line_at r.lines k).answer (r.at (suc k)) v l stage
        (made k (Evaluate 256) (omega arith) (at_evaluate c.sizes _ _ _ _ _ _ _ v l))

    pub evaluates : (v : ℕ) → v ≤ gates → Stage K r.circuit inputs inputs gates v (r.at (2 * inputs + gates + v))
    evaluates zero l = at_step (2 * inputs + gates) (2 * inputs + gates + 0) (Stage K r.circuit inputs inputs gates 0) (omega arith) (garbles gates (omega arith))
    evaluates (suc v) l =
        at_step (suc (2 * inputs + gates + v)) (2 * inputs + gates + suc v) (Stage K r.circuit inputs inputs gates (suc v)) (omega arith) (evaluating v (omega arith) (evaluates v (omega arith))).1

    abbrev last : ℕ
    last = 2 * inputs + 2 * gates

    colouring : ((line_at r.lines last).answer ≡ Coloured) × Whole K r.circuit (r.at (suc last)) × Shown K r.circuit (r.at (suc last))
    colouring =
        colours_on K r.circuit h.ran.begun.passes h.few r.garbler_hash r.evaluator_hash (r.at last) (line_at r.lines last).answer (r.at (suc last))
        (at_step (2 * inputs + gates + gates) last (Whole K r.circuit) (omega arith) (evaluates gates (omega arith)))
        (made last (Colours c.sizes.outputs) (omega arith) (at_colours c.sizes _ _ _ _ _ _ _))

    decoding : ((line_at r.lines (last + 1)).answer ≡ Decoded) × Whole K r.circuit (r.at (suc (last + 1))) × ((r.at (suc (last + 1))).decoded ≡ true) × ((r.at (suc (last + 1))).colours ≡ (r.at (last + 1)).colours)
    decoding =
        let next : suc last ≡ last + 1 = omega arith in
        decode_on K r.circuit h.ran.begun.passes h.few r.garbler_hash r.evaluator_hash (r.at (last + 1)) (line_at r.lines (last + 1)).answer (r.at (suc (last + 1)))
        (at_step (suc last) (last + 1) (Whole K r.circuit) next colouring.1) (at_step (suc last) (last + 1) (Shown K r.circuit) next colouring.2)
        (made (last + 1) (Decode c.sizes.outputs) (omega arith) (at_decode c.sizes _ _ _ _ _ _ _))

    certifying : (o : ℕ) → o < c.sizes.outputs → Whole K r.circuit (r.at (last + 2 + o)) × ((r.at (last + 2 + o)).decoded ≡ true)
        → IsCertified (line_at r.lines (last + 2 + o)).answer × (Whole K r.circuit (r.at (suc (last + 2 + o))) × ((r.at (suc (last + 2 + o))).decoded ≡ true)) × (r.at (suc (last + 2 + o)) ≡ r.at (last + 2 + o))
    certifying o l stage =
        let k : ℕ = last + 2 + o in
        let turn : call k ≡ Certify o = at_certify c.sizes _ _ _ _ _ _ _ o in
        certify_on K r.circuit h.ran.begun.passes h.few r.garbler_hash r.evaluator_hash (r.at k) (line_at r.lines k).answer (r.at (suc k)) o l stage.0 stage.1
        (made k (Certify o) (omega arith) turn) (h.known k o (omega arith) (h.calls k (omega arith) ∙ turn))

    pub certifies : (o : ℕ) → o ≤ c.sizes.outputs → Whole K r.circuit (r.at (last + 2 + o)) × ((r.at (last + 2 + o)).decoded ≡ true)
    certifies zero l = at_step (suc (last + 1)) (last + 2 + 0) (λ z. Whole K r.circuit z × (z.decoded ≡ true)) (omega arith) (decoding.1, decoding.2)
    certifies (suc o) l =
        at_step (suc (last + 2 + o)) (last + 2 + suc o) (λ z. Whole K r.circuit z × (z.decoded ≡ true)) (omega arith) (certifying o (omega arith) (certifies o (omega arith))).1

    pub encode_answers : (i : ℕ) → i < inputs → (line_at r.lines i).answer ≡ Encoded (encoded K (r.at i).offset (r.at i).zeros i (get_or bits i 0))
    encode_answers i l = (encoding i l (encodes i (omega arith))).0

    pub deliver_answers : (i : ℕ) → i < inputs → (line_at r.lines (inputs + i)).answer ≡ Delivered
    deliver_answers i l = (delivering i l (delivers i (omega arith))).0

    pub garble_answers : (g : ℕ) → g < gates → (line_at r.lines (2 * inputs + g)).answer ≡ Garbled (gate_bits (8 * K.width) (form_of c g)) (gate_bytes (8 * K.width) (form_of c g))
    garble_answers g l = (garbling g l (garbles g (omega arith))).0

    pub evaluate_answers : (v : ℕ) → v < gates → (line_at r.lines (2 * inputs + gates + v)).answer ≡ Evaluated (gate_bytes (8 * K.width) (form_of c v))
    evaluate_answers v l = (evaluating v l (evaluates v (omega arith))).0

    pub colours_answer : (line_at r.lines last).answer ≡ Coloured
    colours_answer = colouring.0

    pub decode_answer : (line_at r.lines (last + 1)).answer ≡ Decoded
    decode_answer = decoding.0

    pub colours_shown : (r.at (suc last)).shown ≡ Some c.sizes.outputs
    colours_shown = colouring.2.count

    pub colours_kept : (r.at (suc (last + 1))).colours ≡ (r.at (suc last)).colours
    colours_kept = decoding.3 ∙ ap (λ (k : ℕ). (r.at k).colours) (let e : last + 1 ≡ suc last = omega arith in e)

    pub coloured : Whole K r.circuit (r.at (suc last))
    coloured = colouring.1

    pub certify_leaves : (o : ℕ) → o < c.sizes.outputs → r.at (suc (last + 2 + o)) ≡ r.at (last + 2 + o)
    certify_leaves o l = (certifying o l (certifies o (omega arith))).2

    pub certify_answers : (o : ℕ) → o < c.sizes.outputs → IsCertified (line_at r.lines (last + 2 + o)).answer
    certify_answers o l = (certifying o l (certifies o (omega arith))).0

    pub ends : Whole K r.circuit (r.at (calls_in c.sizes))
    ends = at_step (last + 2 + c.sizes.outputs) (calls_in c.sizes) (Whole K r.circuit) (omega arith) (certifies c.sizes.outputs (omega arith)).0
