-- A whole settlement from its promise. Assumes nothing.
use Rattle.std.proofs.Common.{◌≡◌, ℕ, ◌<◌, ◌≤◌, ◌||◌, Bool, true, false, not, ltb, eqb, List, [], ◌∷◌, length, get_or, slice_index, Some, None, Option, refl, sym, ap, ◌∙◌, subst, arith}
use Rattle.std.proofs.lemmas.Bool.{le-ltb, eqb-true}
use Rattle.labels.specs.Kind.{Kind}
use Rattle.circuit.specs.Words.{all_below}
use Rattle.circuit.specs.Parts.{Parts, parts_of}
use Rattle.circuit.specs.Gates.{wires_in}
use Rattle.circuit.specs.Check.{circuit_refusal, bytes_in}
use Rattle.circuit.specs.Refusals.{first_of, or_else}
use Rattle.circuit.specs.declared.refusal.Refusal.{Refusal}
use Rattle.circuit.specs.declared.refusal.Refusal.TheVariants.{Memory, Bit}
use Rattle.circuit.proofs.Bounds.{each_below}
use Rattle.circuit.proofs.Checks.{or_else_none}
use Rattle.plain.specs.Plain.{plain_refusal}
use Rattle.memory.specs.Copy.{open_copy, copy_refusal}
use Rattle.laws.proofs.Opening.{passes_open}
use Rattle.tables.proofs.Packing.{length_listed, get_or_listed}
use Rattle.parties.specs.declared.side.Side.{Side}
use Rattle.parties.specs.Side.{unused}
use Rattle.labels.specs.Lists.{places}
use Rattle.settlement.specs.declared.lent.Lent.{Lent}
use Rattle.parties.specs.Refusing.{open_refusal, join_refusal}
use Rattle.settlement.specs.State.{State}
use Rattle.settlement.specs.Runs.{Settlement, settlement_from, Ran}
use Rattle.settlement.specs.Claims.{Claims, LineClaims}
use Rattle.settlement.specs.Refused.{settle_refusal}
use Rattle.settlement.specs.Refused.{supply_of}
use Rattle.settlement.specs.Settled.{Ended}
use Rattle.settlement.specs.declared.call.Call.{Call}
use Rattle.settlement.specs.declared.call.Call.TheVariants.{Garble}
use Rattle.settlement.specs.declared.line.Line.{Line}
use Rattle.settlement.specs.declared.past.Past.{Past}
use Rattle.settlement.proofs.Circuits.{inputs_few}
use Rattle.settlement.proofs.Facts.{two_passed, not_false}
use Rattle.exchange.specs.Course.{calls_in, course}
use Rattle.exchange.specs.Planned.{Planned}
use Rattle.exchange.specs.Outcome.{Outcome}
use Rattle.exchange.proofs.Copies.{wires_copy}
use Rattle.exchange.proofs.Stages.{Enough, Whole}
use Rattle.exchange.proofs.Phases.{Course, ends as ends_whole}
use Rattle.exchange.proofs.Done.{zeros_end, labels_end, material_end, outputs_end, colours_end, lines_end}

-- the bits of an accepted plain evaluation are bits, one for each input
none_met : (a b d : Bool) → (a || (not b || d)) ≡ false → b ≡ true
none_met true b d e = absurd (let z : ◌≡◌ {A = ℕ} 0 1 = cc in omega arith)
none_met false true d e = refl
none_met false false d e = absurd (let z : ◌≡◌ {A = ℕ} 0 1 = cc in omega arith)

module _ (bytes bits : List ℕ) (w o : ℕ) (free : plain_refusal bytes bits w o ≡ None) where
  abbrev d : Parts
  d = parts_of bytes

  tests : ((ltb w (wires_in d) || (not (eqb (length bits) d.sizes.inputs) || not (eqb o d.sizes.outputs))) ≡ false) × (not (all_below (λ i. get_or bits i 0) (length bits) 2) ≡ false)
  tests = two_passed _ _ Memory Bit (or_else_none (circuit_refusal bytes) _ free).1

  bits_long : length bits ≡ d.sizes.inputs
  bits_long = eqb-true (length bits) d.sizes.inputs (none_met (ltb w (wires_in d)) (eqb (length bits) d.sizes.inputs) (not (eqb o d.sizes.outputs)) tests.0)

  pub each_small : (i : ℕ) → i < d.sizes.inputs → get_or bits i 0 < 2
  each_small i l = let long = bits_long in each_below (λ i. get_or bits i 0) (length bits) 2 (not_false _ tests.1) i (omega arith)

-- what a settlement as planned holds at its end, for any state that stands for what is lent
pub record Held {L : Type 0} (lent : Lent L) (z : State L) : Type 0 where
  pub zeros : z.zeros ≡ lent.zeros.now
  pub labels : z.labels ≡ lent.labels.now
  pub scratch : z.scratch ≡ lent.scratch.now
  pub material : z.material ≡ lent.material.now
  pub colours : z.colours ≡ lent.colours.now
  pub outputs : z.outputs ≡ lent.outputs.now

module _ {L : Type 0} (K : Kind L) (F : L → ℕ → L) (bytes seed bits copy : List ℕ) (garbler evaluator : Side) (calls : List Call) (before lines : List (Line L)) (lent after : Lent L) (old : State L) (last : Past → State L)
    (plan : Planned K bytes bits copy garbler evaluator lent calls before) (e : Ended K F F bytes seed calls lines old last) (garbler_none : old.garbler_count ≡ 0) (evaluator_none : old.evaluator_count ≡ 0)
    (first : Held lent old) (then : (past : Past) → Held after (last past)) where
  abbrev c : Parts
  c = parts_of bytes

  abbrev call : ℕ → Call
  call = course c.sizes (bytes_in K c c.sizes.gates) bits

  abbrev r : Settlement L
  r = settlement_from old F F bytes calls lines e.at

  many : length calls ≡ calls_in c.sizes
  many = ap length plan.calls_are ∙ length_listed call (calls_in c.sizes)

  ran : Ran K r (calls_in c.sizes)
  ran = subst (λ (n : ℕ). Ran K r n) many e.settled.ran

  claims : (k : ℕ) → k ≤ calls_in c.sizes → Claims K r k
  claims k l = e.settled.claims refl k (omega (arith, many))

  line_claims : (k : ℕ) → k < calls_in c.sizes → LineClaims K r k
  line_claims k l = e.settled.lines refl k (omega (arith, many))

  enough : Enough K bytes (r.at 0)
  enough =
      let p = e.settled.prepared in
      let z = p.opened.wires.long in
      let j = p.joined.wires.long in
      let s = ap (λ (xs : List L). length xs) (p.scratch ∙ first.scratch) in
      let m = ap (λ (xs : List ℕ). length xs) (p.material ∙ first.material) in
      let d = ap (λ (xs : List ℕ). length xs) (p.colours ∙ first.colours) in
      let o = ap (λ (xs : List ℕ). length xs) (p.outputs ∙ first.outputs) in
      let lz = ap (λ (xs : List L). length xs) first.zeros in
      let lj = ap (λ (xs : List L). length xs) first.labels in
      record {
        zeros = z ∙ lz ∙ plan.enough.zeros_long;
        labels = j ∙ lj ∙ plan.enough.labels_long;
        scratch = s ∙ plan.enough.scratch_long;
        material = m ∙ plan.enough.material_long;
        colours = d ∙ plan.enough.colours_long;
        outputs = o ∙ plan.enough.outputs_long;
      }

  course_is : Course K r bits
  course_is = record {
    ran = ran;
    calls = λ k l. ap (λ (xs : List Call). get_or xs k (Garble 0 0)) plan.calls_are ∙ get_or_listed call (calls_in c.sizes) k (Garble 0 0) l;
    few = inputs_few bytes ran.begun.passes;
    small = each_small bytes bits _ _ plan.accepted;
    enough = enough;
    known = λ k o l ec ea. (line_claims k l).known o ec ea;
    garbler_new = garbler_none;
    evaluator_new = evaluator_none;
  }

  ends : e.at (calls_in c.sizes) ≡ last e.past
  ends = ap e.at (sym many) ∙ e.settled.ends

  seed_is : (e.at 0).seed ≡ K.from seed
  seed_is = e.settled.prepared.opened.seed_is

  holds : Held after (e.at (calls_in c.sizes))
  holds = subst (λ (z : State L). Held after z) (sym ends) (then e.past)

  abbrev end : State L
  end = e.at (calls_in c.sizes)

  stage : Whole K bytes end
  stage = ends_whole K r bits course_is

  pub outcome : Outcome K F (K.from seed) c bits after lines
  outcome =
      subst (λ (l : L). Outcome K F l c bits after lines) seed_is (record {
        zeros_are = λ w l. ap (λ (xs : List L). places K xs w) (sym holds.zeros) ∙ zeros_end K r bits course_is claims line_claims w l;
        labels_are = λ w l. ap (λ (xs : List L). places K xs w) (sym holds.labels) ∙ labels_end K r bits course_is claims line_claims w l;
        material_is = sym holds.material ∙ material_end K r bits course_is claims line_claims;
        outputs_are = λ o l. ap (λ (xs : List ℕ). slice_index xs o) (sym holds.outputs) ∙ outputs_end K r bits course_is claims line_claims o l;
        colours_are = λ o l. ap (λ (xs : List ℕ). slice_index xs o) (sym holds.colours) ∙ colours_end K r bits course_is claims line_claims o l;
        lines_are = lines_end K r bits course_is claims line_claims;
        zeros_long = ap length (sym holds.zeros) ∙ stage.enough.zeros;
        labels_long = ap length (sym holds.labels) ∙ stage.enough.labels;
        outputs_long = ap length (sym holds.outputs) ∙ stage.enough.outputs;
      })

-- and what stands against it is what stands against its opening
module _ {L : Type 0} (K : Kind L) (F : L → ℕ → L) (bytes seed bits copy : List ℕ) (garbler evaluator : Side) (lent : Lent L) (calls : List Call) (lines : List (Line L))
    (plan : Planned K bytes bits copy garbler evaluator lent calls lines) where
  abbrev opening : Option Refusal
  opening = open_refusal unused bytes K F (wires_in (parts_of bytes)) seed

  passes : circuit_refusal bytes ≡ None
  passes = (or_else_none (circuit_refusal bytes) _ plan.accepted).0

  own_free : or_else (first_of ((ltb (length lines) (length calls) || ltb (length lent.sent.now) 256, Memory) ∷ [])) (copy_refusal bytes (length copy)) ≡ None
  own_free =
      let a : ltb (length lines) (length calls) ≡ false = le-ltb (length lines) (length calls) (let e = plan.enough.lines_long in omega arith) in
      let b : ltb (length lent.sent.now) 256 ≡ false = le-ltb (length lent.sent.now) 256 (let e = plan.enough.sent_long in omega arith) in
      let d : ltb (length copy) (length bytes) ≡ false = le-ltb (length copy) (length bytes) (let e = plan.enough.copy_long in omega arith) in
      let p = passes in rw (a, b, p, d) refl

  join_free : join_refusal unused (open_copy bytes) (length lent.labels.now) ≡ None
  join_free =
      let w = wires_copy bytes passes in
      let d : ltb (length lent.labels.now) (wires_in (parts_of (open_copy bytes))) ≡ false = le-ltb (length lent.labels.now) (wires_in (parts_of (open_copy bytes))) (let e = plan.enough.labels_long in omega arith) in
      let p = passes_open bytes passes in
      rw (p, d) refl

  or_none : (a b : Option Refusal) → b ≡ None → or_else a b ≡ a
  or_none (Some why) b e = refl
  or_none None b e = e

  pub only_opening : settle_refusal K F bytes seed garbler evaluator (length lent.zeros.now) (length lent.labels.now) (supply_of (length calls) (length lines) (length lent.sent.now) (length copy)) ≡ opening
  unfolding settle_refusal
  only_opening =
      (λ i. settle_refusal K F bytes seed (plan.garbler_new i) (plan.evaluator_new i) (length lent.zeros.now) (length lent.labels.now) (supply_of (length calls) (length lines) (length lent.sent.now) (length copy)))
      ∙ ap (λ (x : Option Refusal). or_else x (or_else (open_refusal unused bytes K F (length lent.zeros.now) seed) (join_refusal unused (open_copy bytes) (length lent.labels.now)))) own_free
      ∙ or_none (open_refusal unused bytes K F (length lent.zeros.now) seed) _ join_free
      ∙ ap (λ (w : ℕ). open_refusal unused bytes K F w seed) plan.enough.zeros_long
