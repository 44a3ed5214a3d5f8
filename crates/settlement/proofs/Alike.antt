-- Settlements alike in all but seeds, row words, bits 0 or 1 and what carries them show the same. Assumes nothing.
use Rattle.std.proofs.Common.{◌≡◌, ℕ, zero, suc, ◌+◌, ◌<◌, ◌≤◌, sym, ap, ◌∙◌, arith}
use Rattle.labels.specs.Kind.{Kind}
use Rattle.hashes.specs.Count.{counted}
use Rattle.circuit.specs.Parts.{Parts}
use Rattle.circuit.specs.Gates.{wires_in}
use Rattle.memory.specs.Copy.{open_copy}
use Rattle.parties.specs.Side.{started}
use Rattle.settlement.specs.Lines.{call_at, line_at, bare}
use Rattle.settlement.specs.Runs.{Settlement, Ran}
use Rattle.settlement.specs.Claims.{given}
use Rattle.settlement.specs.Alike.{SameLengths, Alike, SameLine}
use Rattle.settlement.proofs.AlikeCalls.{SameSides, CertifyPublic, call_same}
use Rattle.settlement.proofs.Certifying.{certify_public}
use Rattle.settlement.proofs.Theorem.{colours_offset, tied_at}
use Rattle.settlement.proofs.AlikeLengths.{lengths_kept, step_lengths}
use Rattle.settlement.proofs.AlikeBits.{AreBits, none_bits, step_bits}
use Rattle.settlement.proofs.AlikeRefusals.{SameTurns, turns_same, copies_same, copy_turns_same}

-- a certify of a run is refused by what it shows alone
own : {L : Type 0} (K : Kind L) (r : Settlement L) (n : ℕ) → Ran K r n → r.evaluator_hash ≡ r.garbler_hash → (k : ℕ) → k ≤ n → CertifyPublic K r.circuit (r.at k)
own K r n ran same k l j decoded =
    certify_public K r.garbler_hash r.circuit (r.at 0).seed ran.begun.passes (colours_offset K r n ran same) (r.at k) (given r k) (tied_at K r n ran same k l) j decoded

module _ {L : Type 0} (K : Kind L) (r o : Settlement L) (n m : ℕ) (r_ran : Ran K r n) (o_ran : Ran K o m) (r_same : r.evaluator_hash ≡ r.garbler_hash) (o_same : o.evaluator_hash ≡ o.garbler_hash) (alike : Alike r o) where
  turns : SameTurns r.circuit o.circuit
  turns = turns_same r.circuit o.circuit r_ran.begun.passes o_ran.begun.passes alike.circuit

  copies : SameTurns (open_copy r.circuit) (open_copy o.circuit)
  copies = copy_turns_same r.circuit o.circuit r_ran.begun.passes o_ran.begun.passes alike.circuit

  begun_same : SameSides (r.at 0) (o.at 0)
  begun_same =
      let x = r_ran.begun in
      let y = o_ran.begun in
      let e = copies_same r.circuit o.circuit x.passes y.passes alike.circuit in
      record {
        garbler = y.garbler ∙ (λ i. started (alike.circuit.sizes i) (turns.wires i)) ∙ sym x.garbler;
        evaluator = y.evaluator ∙ ap (λ (c : Parts). started c.sizes (wires_in c)) e ∙ sym x.evaluator;
        shown = y.none_shown ∙ sym x.none_shown;
        decoded = y.none_decoded ∙ sym x.none_decoded;
        garbler_count = y.garbler_count ∙ (λ i. counted (alike.garbler_came i) (1 + (alike.circuit.sizes i).inputs)) ∙ sym x.garbler_count;
        evaluator_count = y.evaluator_count ∙ alike.evaluator_came ∙ sym x.evaluator_count;
      }

  -- before call k
  record Held (k : ℕ) : Type 0 where
    pub sides : SameSides (r.at k) (o.at k)
    pub lengths : SameLengths (r.at k) (o.at k)
    pub r_bits : AreBits (r.at k)
    pub o_bits : AreBits (o.at k)

  held_next : (k : ℕ) → k < n → k < m → Held k → (bare (line_at o.lines k).answer ≡ bare (line_at r.lines k).answer) × Held (suc k)
  held_next k l h held =
      let p = r_ran.follows.step k l in
      let q = o_ran.follows.step k h in
      let lengths = lengths_kept (r.at k) (o.at k) (r.at (suc k)) (o.at (suc k)) held.lengths
      (step_lengths K r.garbler_hash r.evaluator_hash r.circuit (r.at k) (line_at r.lines k).answer (r.at (suc k)) (call_at r.calls k) p)
      (step_lengths K o.garbler_hash o.evaluator_hash o.circuit (o.at k) (line_at o.lines k).answer (o.at (suc k)) (call_at o.calls k) q)
      in
      let after = call_same K r.circuit o.circuit turns copies (r.at k) (o.at k) held.sides held.lengths held.r_bits held.o_bits (own K r n r_ran r_same k (omega arith)) (own K o m o_ran o_same k (omega arith))
      r.garbler_hash r.evaluator_hash o.garbler_hash o.evaluator_hash (line_at r.lines k).answer (line_at o.lines k).answer (r.at (suc k)) (o.at (suc k))
      (call_at r.calls k) (call_at o.calls k) (alike.calls k) p q
      in (
        after.answer,
        record {
          sides = after.sides;
          lengths = lengths;
          r_bits = step_bits K r.garbler_hash r.evaluator_hash r.circuit (r.at k) (line_at r.lines k).answer (r.at (suc k)) held.r_bits (call_at r.calls k) p;
          o_bits = step_bits K o.garbler_hash o.evaluator_hash o.circuit (o.at k) (line_at o.lines k).answer (o.at (suc k)) held.o_bits (call_at o.calls k) q;
        },
      )

  held_at : (k : ℕ) → k ≤ n → k ≤ m → Held k
  held_at zero l h = record {
    sides = begun_same;
    lengths = alike.lengths;
    r_bits = none_bits (r.at 0) r_ran.begun.none_shown;
    o_bits = none_bits (o.at 0) o_ran.begun.none_shown;
  }
  held_at (suc k) l h = (held_next k (omega arith) (omega arith) (held_at k (omega arith) (omega arith))).1

  pub alike_shows : (k : ℕ) → k < n → k < m → SameLine r o k
  alike_shows k l h =
      let next = held_next k l h (held_at k (omega arith) (omega arith)) in
      record {
        answer = next.0;
        garbler_count = o_ran.follows.garbler_counts k h ∙ next.1.sides.garbler_count ∙ sym (r_ran.follows.garbler_counts k l);
        evaluator_count = o_ran.follows.evaluator_counts k h ∙ next.1.sides.evaluator_count ∙ sym (r_ran.follows.evaluator_counts k l);
      }

-- of every settlement alike, at a line of this one
pub line_alike : {L : Type 0} (K : Kind L) (r : Settlement L) (n : ℕ) → Ran K r n → r.evaluator_hash ≡ r.garbler_hash → (k : ℕ) → k < n
    → (o : Settlement L) → Ran K o (suc k) → o.evaluator_hash ≡ o.garbler_hash → Alike r o → SameLine r o k
line_alike K r n ran same k l o other o_same alike = alike_shows K r o n (suc k) ran other same o_same alike k l (omega arith)
