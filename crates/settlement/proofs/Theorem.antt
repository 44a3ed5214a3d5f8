-- The theorem on settlements: the tie holds between any two calls, and with it every claim. Assumes nothing.
use Rattle.std.proofs.Common.{◌≡◌, ◌≢◌, ℕ, zero, suc, ◌<◌, ◌≤◌, Bool, true, false, cond, eqb, ltb, slice_index, sym, ap, ap₂, ◌∙◌, subst, inl, inr, arith, not, ◌&&◌, length}
use Rattle.std.proofs.lemmas.Bool.{cases_Bool, cases_lt, lt-ltb, le-ltb}
use Rattle.std.proofs.lemmas.Bool.Decides.{nat_tests}
use Rattle.labels.specs.Kind.{Kind, times}
use Rattle.labels.specs.Numbers.{digit}
use Rattle.hashes.specs.Draws.{offset}
use Rattle.circuit.specs.Parts.{Parts, parts_of}
use Rattle.circuit.specs.Gates.{output_of, made_before}
use Rattle.plain.specs.Plain.{plain_bit}
use Rattle.steps.specs.Whole.{zero_label}
use Rattle.labels.specs.Lists.{places}
use Rattle.hashes.specs.Count.{counted}
use Rattle.garbler.specs.Garbling.{encoded}
use Rattle.laws.proofs.Order.{made_zero}
use Rattle.laws.proofs.Bits.{plain_input}
use Rattle.parties.specs.Marks.{is_marked, all_marked}
use Rattle.settlement.specs.Lines.{call_at, line_at, is_accepted}
use Rattle.settlement.specs.Made.{Step}
use Rattle.settlement.specs.Runs.{Settlement, Ran}
use Rattle.settlement.specs.Claims.{given, bit_of, garbler_sum, evaluator_sum, garbler_made, evaluator_made, label_of, Claims, LineClaims}
use Rattle.settlement.specs.Alike.{Alike, SameLine}
use Rattle.circuit.specs.declared.refusal.Refusal.TheVariants.{Foreign}
use Rattle.settlement.specs.declared.call.Call.{Call}
use Rattle.settlement.specs.declared.call.Call.TheVariants.{Encode, Certify}
use Rattle.settlement.specs.declared.line.Answer.TheVariants as Answers
use Rattle.circuit.proofs.Checks.{or_else_none}
use Rattle.parties.specs.Turns.{gates_left}
use Rattle.parties.specs.Refusing.{output_refusal}
use Rattle.settlement.specs.Stands.{output_label}
use Rattle.settlement.proofs.Certifying.{certify_value, answer_known}
use Rattle.settlement.proofs.Between.{ruled, Tied}
use Rattle.settlement.proofs.Outcomes.{accepted_is}
use Rattle.settlement.proofs.Kept.{call_keeps}
use Rattle.settlement.proofs.Counting.{fresh_count, garbler_counts, evaluator_counts}
use Rattle.settlement.proofs.Values.{is_decoded, encode_value, decode_notes, decode_case}
use Rattle.settlement.proofs.Beginning.{begun_tied}

module _ {L : Type 0} (K : Kind L) (r : Settlement L) (n : ℕ) (ran : Ran K r n) (same : r.evaluator_hash ≡ r.garbler_hash) where
  abbrev c' : Parts
  c' = parts_of r.circuit

  abbrev F : L → ℕ → L
  F = r.garbler_hash

  abbrev seed : L
  seed = (r.at 0).seed

  pub colours_offset : K.colour (offset F seed K) ≡ true
  colours_offset = ap K.colour (sym ran.begun.offset_is) ∙ ran.begun.coloured

  step_at : (k : ℕ) → k < n → Step K F F r.circuit (r.at k) (call_at r.calls k) (line_at r.lines k).answer (r.at (suc k))
  step_at k l = subst (λ (E : L → ℕ → L). Step K F E r.circuit (r.at k) (call_at r.calls k) (line_at r.lines k).answer (r.at (suc k))) same (ran.follows.step k l)

  pub tied_at : (k : ℕ) → k ≤ n → Tied K F r.circuit seed (r.at k) (given r k)
  tied_at zero l = begun_tied K r ran.begun
  tied_at (suc k) l = call_keeps K F r.circuit seed ran.begun.passes colours_offset (r.at k) (given r k) (tied_at k (omega arith)) (line_at r.lines k).answer (r.at (suc k)) (call_at r.calls k) (step_at k (omega arith))

  -- (the evaluator's label, on any wire that it has made)
  evaluator_label : (k : ℕ) → k ≤ n → (w : ℕ) → evaluator_made (r.at k) w ≡ true → places K (r.at k).labels w ≡ ruled K F r.circuit seed w (bit_of r k w)
  evaluator_label k l w made =
      let tied = tied_at k l in
      let s = r.at k in
      let sizes = ap (λ z. z.inputs) tied.evaluator_sizes in
      elim (cases_lt w s.evaluator.sizes.inputs) [
        | inl h ↦ (
            let first : ltb w s.evaluator.sizes.inputs ≡ true = lt-ltb w s.evaluator.sizes.inputs h in
            let mark : is_marked s.evaluator.marks w ≡ true = ap (λ (q : Bool). cond q (is_marked s.evaluator.marks w) (ltb w s.evaluator.made)) (sym first) ∙ made in
            tied.delivered w (omega arith) mark ∙ ap (ruled K F r.circuit seed w) (sym (plain_input c' (given r k) w (omega arith))))
        | inr h ↦ (
            let later : ltb w s.evaluator.sizes.inputs ≡ false = le-ltb w s.evaluator.sizes.inputs h in
            let there : ltb w s.evaluator.made ≡ true = ap (λ (q : Bool). cond q (is_marked s.evaluator.marks w) (ltb w s.evaluator.made)) (sym later) ∙ made in
            let below : w < s.evaluator.made = grind (arith, nat_tests) in
            elim (cases_Bool (all_marked s.evaluator.marks c'.sizes.inputs)) [
              | inl all ↦ tied.evaluated all w below
              | inr wait ↦ (
                  let first : s.evaluator.made ≡ c'.sizes.inputs = tied.evaluator_made ∙ ap (made_before c') (tied.waits wait) ∙ made_zero c' in
                  absurd (omega arith))
            ])
      ]

  pub labels_claim : (k : ℕ) → k ≤ n → (w : ℕ) → garbler_made (r.at k) w ≡ true → evaluator_made (r.at k) w ≡ true
      → places K (r.at k).labels w ≡ K.xor (places K (r.at k).zeros w) (times K (bit_of r k w) (r.at k).offset)
  labels_claim k l w gm em =
      let tied = tied_at k l in
      let below : w < (r.at k).garbler.made = grind (arith, nat_tests) in
      evaluator_label k l w em ∙ ap₂ (λ z d. K.xor z (times K (bit_of r k w) d)) (sym (tied.zeros w below)) (sym tied.offset_is)

  pub garbler_count_claim : (k : ℕ) → k ≤ n → (r.at k).garbler_count ≡ counted r.garbler_came (garbler_sum r k)
  garbler_count_claim zero l = ran.begun.garbler_count
  garbler_count_claim (suc k) l = garbler_counts K F F r.circuit ran.begun.passes (r.at k) (line_at r.lines k).answer (r.at (suc k)) r.garbler_came (garbler_sum r k) (call_at r.calls k) (step_at k (omega arith)) (garbler_count_claim k (omega arith))

  pub evaluator_count_claim : (k : ℕ) → k ≤ n → (r.at k).evaluator_count ≡ counted r.evaluator_came (evaluator_sum r k)
  evaluator_count_claim zero l = let fits = ran.begun.evaluator_fits in ran.begun.evaluator_count ∙ fresh_count r.evaluator_came fits
  evaluator_count_claim (suc k) l = evaluator_counts K F F r.circuit ran.begun.passes (r.at k) (line_at r.lines k).answer (r.at (suc k)) r.evaluator_came (evaluator_sum r k) (call_at r.calls k) (step_at k (omega arith)) (evaluator_count_claim k (omega arith))

  pub claims : (k : ℕ) → k ≤ n → Claims K r k
  claims k l =
      let tied = tied_at k l in
      record {
        labels = λ w _ gm em. labels_claim k l w gm em;
        offset_is = tied.offset_is;
        zeros = λ w gm. tied.zeros w (let z = gm in grind (arith, nat_tests));
        material = tied.written;
        garbler_count = garbler_count_claim k l;
        evaluator_count = evaluator_count_claim k l;
      }

  -- line k
  encodes_claim : (k : ℕ) → k < n → (i b : ℕ) (label : L) → call_at r.calls k ≡ Encode i b → (line_at r.lines k).answer ≡ Answers.Encoded label → label ≡ label_of K r i (eqb b 1)
  encodes_claim k l i b label ec ea =
      let a = (line_at r.lines k).answer in
      let step = subst (λ (q : Call). Step K F F r.circuit (r.at k) q a (r.at (suc k))) ec (step_at k l) in
      let acc = accepted_is K F F r.circuit (r.at k) (Encode i b) a (r.at (suc k)) step (ap is_accepted ea) in
      let value = acc.2.answer in
      let same_label : Answers.Encoded label ≡ Answers.Encoded (encoded K (r.at k).offset (r.at k).zeros i b) = sym ea ∙ value in
      let is : label ≡ encoded K (r.at k).offset (r.at k).zeros i b = cc in
      is ∙ encode_value K F r.circuit seed ran.begun.passes colours_offset (r.at k) (given r k) (tied_at k (omega arith)) i b acc.1
      ∙ ap (λ (d : L). K.xor (zero_label K F seed c' i) (times K (eqb b 1) d)) (sym ran.begun.offset_is)

  decodes_claim : (k : ℕ) → k < n → (line_at r.lines k).answer ≡ Answers.Decoded → (o : ℕ) → o < c'.sizes.outputs
      → slice_index (r.at (suc k)).outputs o ≡ digit (bit_of r (suc k) (output_of c' o))
  decodes_claim k l ea o lo =
      let a = (line_at r.lines k).answer in
      let acc = accepted_is K F F r.circuit (r.at k) (call_at r.calls k) a (r.at (suc k)) (step_at k l) (ap is_accepted ea) in
      decode_case K F r.circuit seed ran.begun.passes colours_offset (r.at k) (given r k) (tied_at k (omega arith)) (call_at r.calls k) a (r.at (suc k)) F acc.2 acc.0 acc.1 (ap is_decoded ea) o lo
      ∙ ap (λ (x : ℕ → Bool). digit (plain_bit c' x (output_of c' o))) (sym (decode_notes K F r.circuit seed ran.begun.passes colours_offset (r.at k) (given r k) (tied_at k (omega arith)) (call_at r.calls k) a F (r.at k) (r.at (suc k)) acc.2 (ap is_decoded ea) (given r k)))

  certifies_claim : (k : ℕ) → k < n → (o : ℕ) (bit : Bool) → call_at r.calls k ≡ Certify o → (line_at r.lines k).answer ≡ Answers.Certified bit → bit ≡ bit_of r k (output_of c' o)
  certifies_claim k l o bit ec ea =
      let s = r.at k in
      let a = (line_at r.lines k).answer in
      let step = subst (λ (q : Call). Step K F F r.circuit s q a (r.at (suc k))) ec (step_at k l) in
      let acc = accepted_is K F F r.circuit s (Certify o) a (r.at (suc k)) step (ap is_accepted ea) in
      let value = acc.2.answer in
      let same_bit : Answers.Certified bit ≡ Answers.Certified (not (K.same (output_label s K r.circuit o) (places K s.zeros (output_of c' o)))) = sym ea ∙ value in
      let is : bit ≡ not (K.same (output_label s K r.circuit o) (places K s.zeros (output_of c' o))) = cc in
      let free = or_else_none (output_refusal s.garbler r.circuit (not s.garbler.ended && not (gates_left s.garbler)) (length s.zeros) o) _ acc.1 in
      is ∙ certify_value K F r.circuit seed ran.begun.passes colours_offset s (given r k) (tied_at k (omega arith)) o acc.0 free.0

  known_claim : (k : ℕ) → k < n → (o : ℕ) → call_at r.calls k ≡ Certify o → (line_at r.lines k).answer ≢ Answers.Refused Foreign
  known_claim k l o ec ea =
      let s = r.at k in
      let a = (line_at r.lines k).answer in
      let step = subst (λ (q : Call). Step K F F r.circuit s q a (r.at (suc k))) ec (step_at k l) in
      answer_known K F r.circuit seed ran.begun.passes colours_offset s (given r k) (tied_at k (omega arith)) o F a (r.at (suc k)) step ea

  pub line_claims : (k : ℕ) → k < n → ((o : Settlement L) → Ran K o (suc k) → o.evaluator_hash ≡ o.garbler_hash → Alike r o → SameLine r o k) → LineClaims K r k
  line_claims k l alike = record {
    encodes = λ i b label ec ea. encodes_claim k l i b label ec ea;
    colours = λ m e o lo. ((tied_at (suc k) (omega arith)).shown m e).1 o lo;
    decodes = λ ea o lo. decodes_claim k l ea o lo;
    certifies = λ o bit ec ea. certifies_claim k l o bit ec ea;
    known = λ o ec ea. known_claim k l o ec ea;
    alike = alike;
  }
