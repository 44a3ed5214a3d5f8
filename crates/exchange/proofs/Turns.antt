-- What each call of a whole settlement does. Assumes nothing.
use Rattle.std.proofs.Common.{◌≡◌, ℕ, ◌+◌, ◌*◌, ◌-◌, ◌<◌, ◌≤◌, Bool, true, false, cond, eqb, ltb, List, get_or, refl, sym, ap, ◌∙◌, subst, inl, inr, arith}
use Rattle.std.proofs.lemmas.Bool.{cases_eq, cases_lt, lt-ltb, le-ltb, eq-eqb, ne_eqb}
use Rattle.circuit.specs.declared.sizes.Sizes.{Sizes}
use Rattle.settlement.specs.Claims.{noted}
use Rattle.settlement.specs.declared.call.Call.TheVariants.{Garble, Encode, Deliver, Evaluate, Colours, Decode, Certify}
use Rattle.exchange.specs.Course.{calls_in, by_turn, course}

module _ (s : Sizes) {X : Type 0} (encode deliver garble evaluate : ℕ → X) (colours decode : X) (certify : ℕ → X) where
  abbrev turn : ℕ → X
  turn k = by_turn s k encode deliver garble evaluate colours decode certify

  pub at_encode : (i : ℕ) → i < s.inputs → turn i ≡ encode i
  unfolding by_turn
  at_encode i h = let a = lt-ltb i s.inputs h in rw a refl

  pub at_deliver : (i : ℕ) → i < s.inputs → turn (s.inputs + i) ≡ deliver i
  unfolding by_turn
  at_deliver i h =
      let a : ltb (s.inputs + i) s.inputs ≡ false = le-ltb (s.inputs + i) s.inputs (omega arith) in
      let b : ltb (s.inputs + i) (2 * s.inputs) ≡ true = lt-ltb (s.inputs + i) (2 * s.inputs) (omega arith) in
      let d : s.inputs + i - s.inputs ≡ i = omega arith in
      rw (a, b, d) refl

  pub at_garble : (g : ℕ) → g < s.gates → turn (2 * s.inputs + g) ≡ garble g
  unfolding by_turn
  at_garble g h =
      let a : ltb (2 * s.inputs + g) s.inputs ≡ false = le-ltb (2 * s.inputs + g) s.inputs (omega arith) in
      let b : ltb (2 * s.inputs + g) (2 * s.inputs) ≡ false = le-ltb (2 * s.inputs + g) (2 * s.inputs) (omega arith) in
      let d : ltb (2 * s.inputs + g) (2 * s.inputs + s.gates) ≡ true = lt-ltb (2 * s.inputs + g) (2 * s.inputs + s.gates) (omega arith) in
      let e : 2 * s.inputs + g - 2 * s.inputs ≡ g = omega arith in
      rw (a, b, d, e) refl

  pub at_evaluate : (g : ℕ) → g < s.gates → turn (2 * s.inputs + s.gates + g) ≡ evaluate g
  unfolding by_turn
  at_evaluate g h =
      let k : ℕ = 2 * s.inputs + s.gates + g in
      let a : ltb k s.inputs ≡ false = le-ltb k s.inputs (omega arith) in
      let b : ltb k (2 * s.inputs) ≡ false = le-ltb k (2 * s.inputs) (omega arith) in
      let d : ltb k (2 * s.inputs + s.gates) ≡ false = le-ltb k (2 * s.inputs + s.gates) (omega arith) in
      let e : ltb k (2 * s.inputs + 2 * s.gates) ≡ true = lt-ltb k (2 * s.inputs + 2 * s.gates) (omega arith) in
      let f : k - (2 * s.inputs + s.gates) ≡ g = omega arith in
      rw (a, b, d, e, f) refl

  -- past the gates
  abbrev last : ℕ
  last = 2 * s.inputs + 2 * s.gates

  past : (k : ℕ) → last ≤ k → turn k ≡ cond (eqb k last) colours (cond (eqb k (last + 1)) decode (certify (k - (last + 2))))
  unfolding by_turn
  past k h =
      let a : ltb k s.inputs ≡ false = le-ltb k s.inputs (omega arith) in
      let b : ltb k (2 * s.inputs) ≡ false = le-ltb k (2 * s.inputs) (omega arith) in
      let d : ltb k (2 * s.inputs + s.gates) ≡ false = le-ltb k (2 * s.inputs + s.gates) (omega arith) in
      let e : ltb k (2 * s.inputs + 2 * s.gates) ≡ false = le-ltb k (2 * s.inputs + 2 * s.gates) h in
      rw (a, b, d, e) refl

  pub at_colours : turn last ≡ colours
  at_colours = past last (omega arith) ∙ ap (λ (q : Bool). cond q colours (cond (eqb last (last + 1)) decode (certify (last - (last + 2))))) (eq-eqb last last refl)

  pub at_decode : turn (last + 1) ≡ decode
  at_decode =
      let k : ℕ = last + 1 in
      past k (omega arith)
      ∙ ap (λ (q : Bool). cond q colours (cond (eqb k k) decode (certify (k - (last + 2))))) (ne_eqb k last (λ e. absurd (omega arith)))
      ∙ ap (λ (q : Bool). cond q decode (certify (k - (last + 2)))) (eq-eqb k k refl)

  pub at_certify : (o : ℕ) → turn (last + 2 + o) ≡ certify o
  at_certify o =
      let k : ℕ = last + 2 + o in
      let e : k - (last + 2) ≡ o = omega arith in
      past k (omega arith)
      ∙ ap (λ (q : Bool). cond q colours (cond (eqb k (last + 1)) decode (certify (k - (last + 2))))) (ne_eqb k last (λ e. absurd (omega arith)))
      ∙ ap (λ (q : Bool). cond q decode (certify (k - (last + 2)))) (ne_eqb k (last + 1) (λ e. absurd (omega arith)))
      ∙ ap certify e

-- what holds of each holds of all
module _ (s : Sizes) (P : ℕ → Type 0) (encode : (i : ℕ) → i < s.inputs → P i) (deliver : (i : ℕ) → i < s.inputs → P (s.inputs + i)) (garble : (g : ℕ) → g < s.gates → P (2 * s.inputs + g))
    (evaluate : (g : ℕ) → g < s.gates → P (2 * s.inputs + s.gates + g)) (colours : P (2 * s.inputs + 2 * s.gates)) (decode : P (2 * s.inputs + 2 * s.gates + 1))
    (certify : (o : ℕ) → o < s.outputs → P (2 * s.inputs + 2 * s.gates + 2 + o)) where
  from : (base m k : ℕ) → ((i : ℕ) → i < m → P (base + i)) → base ≤ k → k < base + m → P k
  from base m k p low high = subst P (let e : base + (k - base) ≡ k = omega arith in e) (p (k - base) (omega arith))

  pub each_turn : (k : ℕ) → k < calls_in s → P k
  each_turn k l =
      elim (cases_lt k s.inputs) [
        | inl a ↦ encode k a
        | inr a ↦ elim (cases_lt k (s.inputs + s.inputs)) [
          | inl b ↦ from s.inputs s.inputs k deliver a b
          | inr b ↦ elim (cases_lt k (2 * s.inputs + s.gates)) [
            | inl d ↦ from (2 * s.inputs) s.gates k garble (omega arith) d
            | inr d ↦ elim (cases_lt k (2 * s.inputs + s.gates + s.gates)) [
              | inl e ↦ from (2 * s.inputs + s.gates) s.gates k evaluate d e
              | inr e ↦ elim (cases_eq k (2 * s.inputs + 2 * s.gates)) [
                | inl f ↦ subst P (sym f) colours
                | inr f ↦ elim (cases_eq k (2 * s.inputs + 2 * s.gates + 1)) [
                  | inl g ↦ subst P (sym g) decode
                  | inr g ↦ from (2 * s.inputs + 2 * s.gates + 2) s.outputs k certify (omega arith) (omega arith)
                ]
              ]
            ]
          ]
        ]
      ]

-- past the inputs none is an encode
one_of : (x y z v u : Bool) (a b d e f h i : ℕ) (q : Bool) (w : ℕ → Bool) → noted (cond x (Deliver a) (cond y (Garble b d) (cond z (Evaluate e) (cond v (Colours f) (cond u (Decode h) (Certify i)))))) q w ≡ w
one_of true y z v u a b d e f h i q w = refl
one_of false true z v u a b d e f h i q w = refl
one_of false false true v u a b d e f h i q w = refl
one_of false false false true u a b d e f h i q w = refl
one_of false false false false true a b d e f h i q w = refl
one_of false false false false false a b d e f h i q w = refl

pub unnoted : (s : Sizes) (material : ℕ) (bits : List ℕ) (k : ℕ) (q : Bool) (w : ℕ → Bool) → s.inputs ≤ k → noted (course s material bits k) q w ≡ w
unfolding by_turn
unnoted s material bits k q w l =
    let a = le-ltb k s.inputs l in
    ap (λ (b : Bool). noted (cond b (Encode k (get_or bits k 0)) (cond (ltb k (2 * s.inputs)) (Deliver (k - s.inputs)) (cond (ltb k (2 * s.inputs + s.gates)) (Garble 256 material) (cond (ltb k (2 * s.inputs + 2 * s.gates)) (Evaluate 256)
    (cond (eqb k (2 * s.inputs + 2 * s.gates)) (Colours s.outputs) (cond (eqb k (2 * s.inputs + 2 * s.gates + 1)) (Decode s.outputs) (Certify (k - (2 * s.inputs + 2 * s.gates + 2))))))))) q w) a
    ∙ one_of _ _ _ _ _ _ _ _ _ _ _ _ q w
