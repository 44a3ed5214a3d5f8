-- No call of a whole settlement is refused. Assumes nothing.
use Rattle.std.proofs.Common.{◌≡◌, ℕ, suc, ◌+◌, ◌*◌, ◌<◌, ◌≤◌, Bool, true, false, not, ◌&&◌, ◌||◌, eqb, leb, ltb, List, [], ◌∷◌, length, get_or, None, Option, refl, ap, ◌∙◌, ap₂, arith}
use Rattle.std.specs.Prelude.{cond}
use Rattle.std.proofs.lemmas.Bool.{lt-ltb, le-ltb, eq-eqb, lt-leb}
use Rattle.labels.specs.Kind.{Kind}
use Rattle.circuit.specs.Words.{all_below}
use Rattle.circuit.specs.Refusals.{first_of, or_else}
use Rattle.circuit.specs.Parts.{Parts, parts_of}
use Rattle.circuit.specs.Gates.{form_of, wires_in}
use Rattle.circuit.specs.Material.{gate_bytes}
use Rattle.circuit.specs.Check.{circuit_refusal, bytes_in}
use Rattle.circuit.specs.declared.refusal.Refusal.{Refusal}
use Rattle.circuit.specs.declared.refusal.Refusal.TheVariants.{Turn, Memory, Material, Number, Bit, Again}
use Rattle.wires.proofs.Made.{rises}
use Rattle.parties.specs.declared.side.Side.{Side}
use Rattle.parties.specs.declared.state.State.TheVariants.{Collecting, Evaluating, Finished}
use Rattle.parties.specs.declared.state.EvaluatorCall.TheVariants.{Deliver, Evaluate, Decode}
use Rattle.parties.specs.Marks.{is_marked, all_marked}
use Rattle.parties.specs.Turns.{is_its, gates_left}
use Rattle.parties.specs.States.{allowed}
use Rattle.parties.specs.Refusing.{turn_refusal, encode_refusal, deliver_refusal, garble_refusal, evaluate_refusal, colours_refusal, decode_refusal, output_refusal}
use Rattle.exchange.proofs.Marks.{marks_below, unmarked, all_below_marked}
use Rattle.exchange.proofs.Reached.{reached, its}

-- tests that are not met, behind a place that does not refuse
one : (o : Option Refusal) (a : Bool) (x : Refusal) → o ≡ None → a ≡ false → or_else o (first_of ((a, x) ∷ [])) ≡ None
one o a x p q = rw (p, q)

two : (o : Option Refusal) (a b : Bool) (x y : Refusal) → o ≡ None → a ≡ false → b ≡ false → or_else o (first_of ((a, x) ∷ (b, y) ∷ [])) ≡ None
two o a b x y p q r = rw (p, q, r)

four : (o : Option Refusal) (a b d e : Bool) (x y z w : Refusal) → o ≡ None → a ≡ false → b ≡ false → d ≡ false → e ≡ false → or_else o (first_of ((a, x) ∷ (b, y) ∷ (d, z) ∷ (e, w) ∷ [])) ≡ None
four o a b d e x y z w p q r s t = rw (p, q, r, s, t)

neither : (a b : Bool) → a ≡ false → b ≡ false → (a || b) ≡ false
neither a b p q = rw (p, q)

untrue : (a : Bool) → a ≡ true → not a ≡ false
untrue a p = rw p

-- what it is the evaluator's turn to
delivers : (a b : Bool) → allowed (cond a (cond b Evaluating Finished) Collecting) Deliver ≡ true
delivers true true = refl
delivers true false = refl
delivers false b = refl

evaluates : (a b : Bool) → a ≡ true → b ≡ true → allowed (cond a (cond b Evaluating Finished) Collecting) Evaluate ≡ true
evaluates a b p q = rw (p, q)

decodes : (a b : Bool) → a ≡ true → b ≡ false → allowed (cond a (cond b Evaluating Finished) Collecting) Decode ≡ true
decodes a b p q = rw (p, q)

module _ {L : Type 0} (K : Kind L) (bytes : List ℕ) (passes : circuit_refusal bytes ≡ None) where
  abbrev c : Parts
  c = parts_of bytes

  in_turn : (n g : ℕ) (turn : Bool) → turn ≡ true → turn_refusal (reached K c n g) bytes turn ≡ None
  in_turn n g turn t =
      let own = its K c n g in
      one (circuit_refusal bytes) (not (turn && is_its (reached K c n g) c)) Turn passes (untrue (turn && is_its (reached K c n g) c) (ap₂ (λ (a b : Bool). a && b) t own))

  module _ (n w bit : ℕ) (there : n < c.sizes.inputs) (few : c.sizes.inputs ≤ 256) (room : wires_in c ≤ w) where
    input_tests : (o : Option Refusal) → bit < 2 → o ≡ None
        → or_else o (first_of ((ltb w (wires_in c), Memory) ∷ (leb c.sizes.inputs n, Number) ∷ (ltb 1 bit, Bit) ∷ (is_marked (marks_below n) n, Again) ∷ [])) ≡ None
    input_tests o small p =
        four o (ltb w (wires_in c)) (leb c.sizes.inputs n) (ltb 1 bit) (is_marked (marks_below n) n) Memory Number Bit Again p
        (le-ltb w (wires_in c) room) (lt-leb c.sizes.inputs n there) (le-ltb 1 bit (omega arith)) (unmarked n n (omega arith) (omega arith))

    pub encode_passes : (s : Side) → s ≡ reached K c n 0 → bit < 2 → encode_refusal s bytes w n bit ≡ None
    encode_passes s e small = ap (λ (z : Side). encode_refusal z bytes w n bit) e ∙ input_tests _ small (in_turn n 0 true refl)

  pub deliver_passes : (n w : ℕ) → n < c.sizes.inputs → c.sizes.inputs ≤ 256 → wires_in c ≤ w → (s : Side) → s ≡ reached K c n 0 → deliver_refusal s bytes w n ≡ None
  deliver_passes n w there few room s e =
      let turn = delivers (all_marked (marks_below n) c.sizes.inputs) (ltb 0 c.sizes.gates) in
      ap (λ (z : Side). deliver_refusal z bytes w n) e ∙ input_tests n w 0 there few room _ (omega arith) (in_turn n 0 _ turn)

  -- the material's bytes before a gate, and its own, are among all
  bytes_rise : (g : ℕ) → bytes_in K c g ≤ bytes_in K c (suc g)
  bytes_rise g = omega arith

  bytes_within : (g : ℕ) → g < c.sizes.gates → bytes_in K c g + gate_bytes (8 * K.width) (form_of c g) ≤ bytes_in K c c.sizes.gates
  bytes_within g h = rises (bytes_in K c) bytes_rise (suc g) c.sizes.gates h

  module _ (g w scratch material : ℕ) (there : g < c.sizes.gates) (room : wires_in c ≤ w) (enough : 256 ≤ scratch) (long : material ≡ bytes_in K c c.sizes.gates) where
    step_tests : (o : Option Refusal) → o ≡ None
        → or_else o (first_of ((ltb w (wires_in c) || ltb scratch 256, Memory) ∷ (ltb material (bytes_in K c g + gate_bytes (8 * K.width) (form_of c g)), Material) ∷ [])) ≡ None
    step_tests o p =
        let within = bytes_within g there in
        two o (ltb w (wires_in c) || ltb scratch 256) (ltb material (bytes_in K c g + gate_bytes (8 * K.width) (form_of c g))) Memory Material p
        (neither _ _ (le-ltb w (wires_in c) room) (le-ltb scratch 256 enough)) (le-ltb material _ (omega arith))

    pub garble_passes : (n : ℕ) (s : Side) → s ≡ reached K c n g → garble_refusal s bytes K w scratch material ≡ None
    garble_passes n s e =
        ap (λ (z : Side). garble_refusal z bytes K w scratch material) e ∙ step_tests _ (in_turn n g _ (lt-ltb g c.sizes.gates there))

    pub evaluate_passes : c.sizes.inputs ≤ 256 → (s : Side) → s ≡ reached K c c.sizes.inputs g → evaluate_refusal s bytes K w scratch material ≡ None
    evaluate_passes few s e =
        ap (λ (z : Side). evaluate_refusal z bytes K w scratch material) e
        ∙ step_tests _ (in_turn c.sizes.inputs g _ (evaluates _ _ (all_below_marked c.sizes.inputs few) (lt-ltb g c.sizes.gates there)))

  module _ (w colours : ℕ) (room : wires_in c ≤ w) (count : colours ≡ c.sizes.outputs) where
    output_tests : (o : Option Refusal) → o ≡ None → or_else o (first_of ((ltb w (wires_in c) || not (eqb colours c.sizes.outputs), Memory) ∷ [])) ≡ None
    output_tests o p = one o _ Memory p (neither _ _ (le-ltb w (wires_in c) room) (untrue _ (eq-eqb _ _ count)))

    none_left : ltb c.sizes.gates c.sizes.gates ≡ false
    none_left = le-ltb c.sizes.gates c.sizes.gates (omega arith)

    pub colours_passes : (n : ℕ) (s : Side) → s ≡ reached K c n c.sizes.gates → colours_refusal s bytes w colours ≡ None
    colours_passes n s e =
        let left = none_left in
        ap (λ (z : Side). colours_refusal z bytes w colours) e ∙ output_tests _ (in_turn n c.sizes.gates _ (rw left refl))

  pub decode_passes : (w : ℕ) (colours : List ℕ) (outputs : ℕ) → wires_in c ≤ w → length colours ≡ c.sizes.outputs → outputs ≡ c.sizes.outputs → c.sizes.inputs ≤ 256
      → all_below (λ i. get_or colours i 0) (length colours) 2 ≡ true → (s : Side) → s ≡ reached K c c.sizes.inputs c.sizes.gates → decode_refusal s bytes w colours outputs ≡ None
  decode_passes w colours outputs room count long few small s e =
      ap (λ (z : Side). decode_refusal z bytes w colours outputs) e
      ∙ two _ (not (eqb outputs c.sizes.outputs)) (not (all_below (λ i. get_or colours i 0) (length colours) 2)) Memory Bit
      (output_tests w (length colours) room count _
      (in_turn c.sizes.inputs c.sizes.gates _ (decodes _ _ (all_below_marked c.sizes.inputs few) (none_left w (length colours) room count))))
      (untrue _ (eq-eqb _ _ long)) (untrue _ small)

  -- but for its label
  pub certify_passes : (w k : ℕ) → k < c.sizes.outputs → wires_in c ≤ w → (n : ℕ) (s : Side) → s ≡ reached K c n c.sizes.gates
      → output_refusal s bytes (not s.ended && not (gates_left s)) w k ≡ None
  certify_passes w k there room n s e =
      let left : ltb c.sizes.gates c.sizes.gates ≡ false = le-ltb c.sizes.gates c.sizes.gates (omega arith) in
      ap (λ (z : Side). output_refusal z bytes (not z.ended && not (gates_left z)) w k) e
      ∙ two _ (ltb w (wires_in c)) (leb c.sizes.outputs k) Memory Number (in_turn n c.sizes.gates _ (rw left refl)) (le-ltb w (wires_in c) room) (lt-leb c.sizes.outputs k there)
