-- What it tells that a call is not refused. Assumes nothing.
use Rattle.std.proofs.Common.{◌≡◌, ℕ, ◌+◌, ◌*◌, ◌<◌, ◌≤◌, Bool, true, false, not, ◌&&◌, ◌||◌, eqb, leb, ltb, List, [], ◌∷◌, Some, None, refl, sym, arith}
use Rattle.std.proofs.lemmas.Bool.{eqb-true}
use Rattle.std.proofs.lemmas.Bool.Decides.{nat_tests}
use Rattle.labels.specs.Kind.{Kind}
use Rattle.labels.specs.Longs.{and_left, and_right}
use Rattle.circuit.specs.Parts.{Parts, parts_of}
use Rattle.circuit.specs.Gates.{form_of, made_before, wires_in}
use Rattle.circuit.specs.Material.{gate_bytes}
use Rattle.circuit.specs.Check.{circuit_refusal}
use Rattle.circuit.specs.Refusals.{first_of}
use Rattle.circuit.specs.declared.refusal.Refusal.{Refusal}
use Rattle.circuit.specs.declared.sizes.Sizes.{Sizes}
use Rattle.circuit.specs.declared.refusal.Refusal.TheVariants.{Turn, Memory, Material, Number, Bit, Again}
use Rattle.circuit.proofs.Checks.{or_else_none}
use Rattle.parties.specs.declared.side.Side.{Side}
use Rattle.parties.specs.Marks.{is_marked}
use Rattle.parties.specs.Turns.{same_sizes, is_its, Its}
use Rattle.parties.specs.Refusing.{turn_refusal, step_refusal, input_refusal, output_refusal, outputs_refusal}

false_true : {X : Type 0} → false ≡ true → X
false_true e = absurd (let z : ◌≡◌ {A = ℕ} 0 1 = cc in omega arith)

some_none : {X : Type 0} (a : Refusal) → Some a ≡ None → X
some_none a e = absurd (let z : ◌≡◌ {A = ℕ} 0 1 = cc in omega arith)

-- a test that did not refuse, and those behind it
pub passed : (b : Bool) (x : Refusal) (rest : List (Bool × Refusal)) → first_of ((b, x) ∷ rest) ≡ None → (b ≡ false) × (first_of rest ≡ None)
passed true x rest e = some_none x e
passed false x rest e = (refl, e)

pub two_passed : (a b : Bool) (x y : Refusal) → first_of ((a, x) ∷ (b, y) ∷ []) ≡ None → (a ≡ false) × (b ≡ false)
two_passed a b x y e = let p = passed a x ((b, y) ∷ []) e in (p.0, (passed b y [] p.1).0)

four_passed : (a b c d : Bool) (x y z w : Refusal) → first_of ((a, x) ∷ (b, y) ∷ (c, z) ∷ (d, w) ∷ []) ≡ None → (a ≡ false) × (b ≡ false) × (c ≡ false) × (d ≡ false)
four_passed a b c d x y z w e =
    let p = passed a x ((b, y) ∷ (c, z) ∷ (d, w) ∷ []) e in
    let q = passed b y ((c, z) ∷ (d, w) ∷ []) p.1 in
    let r = two_passed c d z w q.1 in
    (p.0, q.0, r.0, r.1)

pub not_false : (b : Bool) → not b ≡ false → b ≡ true
not_false true e = refl
not_false false e = sym e

pub or_false : (a b : Bool) → (a || b) ≡ false → (a ≡ false) × (b ≡ false)
or_false true b e = false_true (sym e)
or_false false b e = (refl, e)

sizes_same : (a b : Sizes) → same_sizes a b ≡ true → a ≡ b
sizes_same a b e =
    let rest = and_right (eqb a.inputs b.inputs) _ e in
    let rest2 = and_right (eqb a.gates b.gates) _ rest in
    let rest3 = and_right (eqb a.outputs b.outputs) _ rest2 in
    let i = eqb-true a.inputs b.inputs (and_left _ _ e) in
    let g = eqb-true a.gates b.gates (and_left _ _ rest) in
    let o = eqb-true a.outputs b.outputs (and_left _ _ rest2) in
    let p = eqb-true a.operands b.operands (and_left _ _ rest3) in
    let r = eqb-true a.rows b.rows (and_right _ _ rest3) in
    (λ k. record { inputs = i k; gates = g k; outputs = o k; operands = p k; rows = r k })

pub its : (s : Side) (c : Parts) → is_its s c ≡ true → Its s c (wires_in c)
unfolding is_its
its s c e =
    let rest = and_right (same_sizes s.sizes c.sizes) _ e in
    record {
      sizes = sizes_same s.sizes c.sizes (and_left _ _ e);
      wires = eqb-true s.wires (wires_in c) (and_left _ _ rest);
      made = eqb-true s.made (made_before c s.next) (and_right (eqb s.wires (wires_in c)) _ rest);
    }

module _ (s : Side) (bytes : List ℕ) where
  pub turn_free : (turn : Bool) → turn_refusal s bytes turn ≡ None → (turn ≡ true) × Its s (parts_of bytes) (wires_in (parts_of bytes))
  turn_free turn e =
      let t = passed (not (turn && is_its s (parts_of bytes))) Turn [] (or_else_none (circuit_refusal bytes) _ e).1 in
      let b = not_false (turn && is_its s (parts_of bytes)) t.0 in
      (and_left turn _ b, its s (parts_of bytes) (and_right turn _ b))

  pub record StepFree (width : ℕ) (turn : Bool) (wires scratch material : ℕ) : Type 0 where
    pub its_turn : turn ≡ true
    pub own : Its s (parts_of bytes) (wires_in (parts_of bytes))
    pub room : wires_in (parts_of bytes) ≤ wires
    pub enough : s.bytes + gate_bytes (8 * width) (form_of (parts_of bytes) s.next) ≤ material

  pub step_free : {L : Type 0} (K : Kind L) (turn : Bool) (wires scratch material : ℕ) → step_refusal s bytes K turn wires scratch material ≡ None → StepFree K.width turn wires scratch material
  step_free K turn wires scratch material e =
      let o = or_else_none (turn_refusal s bytes turn) _ e in
      let t = turn_free turn o.0 in
      let m = two_passed (ltb wires (wires_in (parts_of bytes)) || ltb scratch 256) (ltb material (s.bytes + gate_bytes (8 * K.width) (form_of (parts_of bytes) s.next))) Memory Material o.1 in
      let w = or_false (ltb wires (wires_in (parts_of bytes))) (ltb scratch 256) m.0 in
      record {
        its_turn = t.0;
        own = t.1;
        room = let a = w.0 in grind (arith, nat_tests);
        enough = let a = m.1 in grind (arith, nat_tests);
      }

  pub record InputFree (turn : Bool) (wires input bit : ℕ) : Type 0 where
    pub its_turn : turn ≡ true
    pub own : Its s (parts_of bytes) (wires_in (parts_of bytes))
    pub room : wires_in (parts_of bytes) ≤ wires
    pub there : input < s.sizes.inputs
    pub new : is_marked s.marks input ≡ false

  pub input_free : (turn : Bool) (wires input bit : ℕ) → input_refusal s bytes turn wires input bit ≡ None → InputFree turn wires input bit
  input_free turn wires input bit e =
      let o = or_else_none (turn_refusal s bytes turn) _ e in
      let t = turn_free turn o.0 in
      let m = four_passed (ltb wires (wires_in (parts_of bytes))) (leb s.sizes.inputs input) (ltb 1 bit) (is_marked s.marks input) Memory Number Bit Again o.1 in
      record {
        its_turn = t.0;
        own = t.1;
        room = let z = m.0 in grind (arith, nat_tests);
        there = let z = m.1 in grind (arith, nat_tests);
        new = m.3;
      }

  pub record OutputFree (turn : Bool) (wires output : ℕ) : Type 0 where
    pub its_turn : turn ≡ true
    pub own : Its s (parts_of bytes) (wires_in (parts_of bytes))
    pub room : wires_in (parts_of bytes) ≤ wires
    pub there : output < s.sizes.outputs

  pub output_free : (turn : Bool) (wires output : ℕ) → output_refusal s bytes turn wires output ≡ None → OutputFree turn wires output
  output_free turn wires output e =
      let o = or_else_none (turn_refusal s bytes turn) _ e in
      let t = turn_free turn o.0 in
      let m = two_passed (ltb wires (wires_in (parts_of bytes))) (leb s.sizes.outputs output) Memory Number o.1 in
      record {
        its_turn = t.0;
        own = t.1;
        room = let z = m.0 in grind (arith, nat_tests);
        there = let z = m.1 in grind (arith, nat_tests);
      }

  pub record OutputsFree (turn : Bool) (wires colours : ℕ) : Type 0 where
    pub its_turn : turn ≡ true
    pub own : Its s (parts_of bytes) (wires_in (parts_of bytes))
    pub room : wires_in (parts_of bytes) ≤ wires
    pub count : colours ≡ s.sizes.outputs

  pub outputs_free : (turn : Bool) (wires colours : ℕ) → outputs_refusal s bytes turn wires colours ≡ None → OutputsFree turn wires colours
  outputs_free turn wires colours e =
      let o = or_else_none (turn_refusal s bytes turn) _ e in
      let t = turn_free turn o.0 in
      let m = passed (ltb wires (wires_in (parts_of bytes)) || not (eqb colours s.sizes.outputs)) Memory [] o.1 in
      let w = or_false (ltb wires (wires_in (parts_of bytes))) (not (eqb colours s.sizes.outputs)) m.0 in
      record {
        its_turn = t.0;
        own = t.1;
        room = let z = w.0 in grind (arith, nat_tests);
        count = eqb-true colours s.sizes.outputs (not_false _ w.1);
      }
