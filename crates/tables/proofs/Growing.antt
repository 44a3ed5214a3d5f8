-- One level of the one-hot step in place. Assumes nothing.
use Rattle.std.proofs.Common.{◌≡◌, ℕ, zero, suc, ◌+◌, ◌-◌, ◌<◌, ◌≤◌, cond, eqb, ◌≢◌, List, length, get_or, set, sym, refl, ap, ◌∙◌, ap₂, inl, inr, add-one, arith, length-set, get_or-set_other, get_or-set_same}
use borrow.Author.Rules.{get_or_read}
use Rattle.std.proofs.lemmas.Bool.{cases_lt, cases_eq, lt-ltb, le-ltb, eq-eqb, ne_eqb}
use Rattle.labels.specs.Kind.{Kind}
use Rattle.labels.proofs.Group.{group}
use Rattle.labels.specs.Lists.{places}
use Rattle.tables.specs.Table.{grown, filled, sum}
use Rattle.tables.specs.Level.{between, Grew}
use Rattle.tables.proofs.Sums.{sum_off}

module _ {L : Type 0} (K : Kind L) where
  pub read_place : (v : List L) (i : ℕ) (x : L) → i < length v → x ≡ get_or v i x → x ≡ places K v i
  read_place v i x l e = get_or_read v i x l e K.zero

  pub between_none : (a : ℕ) (f : ℕ → L) (r : L) → r ≡ K.zero → r ≡ between K a a f
  between_none a f r e = e ∙ sym (K.self (sum K a f))

  pub between_more : (a i : ℕ) (f : ℕ → L) (s c r : L) → s ≡ between K a i f → c ≡ f i → r ≡ K.xor s c → r ≡ between K a (i + 1) f
  between_more a i f s c r es ec er = er ∙ ap₂ K.xor es ec ∙ K.assoc _ _ _ ∙ ap (λ k. K.xor (sum K a f) (sum K k f)) (sym (add-one i))

  pub between_all : (a i b : ℕ) (f : ℕ → L) (r : L) → r ≡ between K a i f → i ≡ b → r ≡ between K a b f
  between_all a i b f r e q = e ∙ ap (λ k. between K a k f) q

  pub grew_none : (w a : ℕ) (c : ℕ → L) (v : List L) → Grew K w a a (places K v) c v
  grew_none w a c v =
      record { lower = λ k l h. absurd (omega arith); upper = λ k l h. absurd (omega arith); before = λ k _. refl; midst = λ k _ _. refl }

  pub grew_more : (w a i : ℕ) (V c : ℕ → L) (v : List L) (x y : L) → Grew K w a i V c v → a ≤ i → i < w → w + w ≤ length v → x ≡ c i → y ≡ K.xor (c i) (V i)
      → Grew K w a (i + 1) V c (set (set v (w + i) x) i y)
  grew_more w a i V c v x y s h l n ex ey =
      let len = length-set v (w + i) x in
      let u = set (set v (w + i) x) i y in
      let at_i = get_or-set_same (set v (w + i) x) i y K.zero (omega arith) in
      let at_wi : places K u (w + i) ≡ x = get_or-set_other (set v (w + i) x) i (w + i) y K.zero (omega arith) ∙ get_or-set_same v (w + i) x K.zero (omega arith) in
      let other : (k : ℕ) → k ≢ i → k ≢ (w + i) → places K u k ≡ places K v k =
      λ k p q. get_or-set_other (set v (w + i) x) i k y K.zero p ∙ get_or-set_other v (w + i) k x K.zero q in
      record {
        lower = λ k b g. elim (cases_eq k i) [ inl e ↦ ap (places K u) e ∙ at_i ∙ ey ∙ ap (λ j. K.xor (c j) (V j)) (sym e) | inr e ↦ other k e (omega arith) ∙ s.lower k b (omega arith) ];
        upper = λ k b g. elim (cases_eq k i) [ inl e ↦ ap (λ j. places K u (w + j)) e ∙ at_wi ∙ ex ∙ ap c (sym e) | inr e ↦ other (w + k) (omega arith) (omega arith) ∙ s.upper k b (omega arith) ];
        before = λ k g. other k (omega arith) (omega arith) ∙ s.before k g;
        midst = λ k g r. other k (omega arith) (omega arith) ∙ s.midst k (omega arith) r;
      }

  pub grew_to : (w a i b : ℕ) (V c : ℕ → L) (v : List L) → Grew K w a i V c v → i ≡ b → Grew K w a b V c v
  grew_to w a i b V c v s q =
      record { lower = λ k g l. s.lower k g (omega arith); upper = λ k g l. s.upper k g (omega arith); before = s.before; midst = λ k g l. s.midst k (omega arith) l }

  between_one : (a b : ℕ) (f : ℕ → L) → between K a (suc b) f ≡ K.xor (between K a b f) (f b)
  between_one a b f = sym (K.assoc (sum K a f) (sum K b f) (f b))

  between_ext : (a b : ℕ) (f h : ℕ → L) → a ≤ b → ((k : ℕ) → a ≤ k → k < b → f k ≡ h k) → between K a b f ≡ between K a b h
  between_ext a zero f h l e = let q : a ≡ 0 = omega arith in ap (λ k. K.xor (sum K k f) K.zero) q ∙ ap (λ k. K.xor (sum K k h) K.zero) (sym q)
  between_ext a (suc b) f h l e =
      elim (cases_lt b a) [
        | inl g ↦ (let q : a ≡ suc b = omega arith in ap (λ k. between K k (suc b) f) q ∙ K.self (sum K (suc b) f) ∙ sym (K.self (sum K (suc b) h)) ∙ ap (λ k. between K k (suc b) h) (sym q))
        | inr g ↦ between_one a b f ∙ ap₂ K.xor (between_ext a b f h g (λ k i j. e k i (omega arith))) (e b g (omega arith)) ∙ sym (between_one a b h)
      ]

  -- whole ⊕ all other c
  lacking : (w x : ℕ) (c d : ℕ → L) (whole a b q : L) → x < w → ((k : ℕ) → x < k → k < w → d k ≡ c k) → a ≡ between K 0 x c → b ≡ between K (x + 1) w d
      → q ≡ K.xor whole (K.xor a b) → q ≡ K.xor whole (sum K w (λ k. cond (eqb k x) K.zero (c k)))
  lacking w x c d whole a b q l e ea eb eq =
      eq
      ∙ ap₂ (λ s t. K.xor whole (K.xor s t)) ea (eb ∙ between_ext (x + 1) w d c (omega arith) (λ k i j. e k (omega arith) j) ∙ ap (λ k. K.xor (sum K k c) (sum K w c)) (add-one x))
      ∙ struck whole (sum K x c) (c x) (sum K w c)
      ∙ ap (K.xor whole) (sym but_one)
    where
      struck : (o s y t : L) → K.xor o (K.xor (K.xor K.zero s) (K.xor (K.xor s y) t)) ≡ K.xor o (K.xor t y)
      struck o s y t = simp group

      but_one : sum K w (λ k. cond (eqb k x) K.zero (c k)) ≡ K.xor (sum K w c) (c x)
      but_one =
          sum_off K w x c (λ k. cond (eqb k x) K.zero (c k)) c l
          (λ i g. elim (cases_eq i x) [ inl p ↦ rw (eq-eqb i x p) (sym (K.self (c i))) | inr p ↦ rw (ne_eqb i x p) (sym (K.right (c i))) ])

  module _ (w x : ℕ) (V c d : ℕ → L) (whole a b q y : L) (v₁ v₂ : List L) (l : x < w) (n : w + w ≤ length v₂) (s₁ : Grew K w 0 x V c v₁) (s₂ : Grew K w (x + 1) w (places K v₁) d v₂)
      (e : (k : ℕ) → x < k → k < w → d k ≡ c k) (ea : a ≡ between K 0 x c) (eb : b ≡ between K (x + 1) w d) (eq : q ≡ K.xor whole (K.xor a b)) (ey : y ≡ K.xor q (places K v₂ x)) where
    abbrev v₃ : List L
    v₃ = set (set v₂ (w + x) q) x y

    other : (k : ℕ) → k ≢ x → k ≢ (w + x) → places K v₃ k ≡ places K v₂ k
    other k i j = get_or-set_other (set v₂ (w + x) q) x k y K.zero i ∙ get_or-set_other v₂ (w + x) k q K.zero j

    -- c with its place filled
    abbrev C : ℕ → L
    C = filled K w x whole c

    CThere : q ≡ C x
    CThere = lacking w x c d whole a b q l e ea eb eq ∙ sym (ap (λ t. cond t (K.xor whole (sum K w (λ k. cond (eqb k x) K.zero (c k)))) (c x)) (eq-eqb x x refl))

    CElse : (k : ℕ) → k ≢ x → c k ≡ C k
    CElse k i = sym (ap (λ t. cond t (K.xor whole (sum K w (λ k. cond (eqb k x) K.zero (c k)))) (c k)) (ne_eqb k x i))

    lower : (k : ℕ) → k < w → places K v₃ k ≡ K.xor (C k) (V k)
    lower k g =
        elim (cases_eq k x) [
          | inl p ↦
              ap (places K v₃) p ∙ get_or-set_same (set v₂ (w + x) q) x y K.zero (let len = length-set v₂ (w + x) q in omega arith) ∙ ey
              ∙ ap₂ K.xor CThere (s₂.before x (omega arith) ∙ s₁.midst x (omega arith) (omega arith)) ∙ ap (λ j. K.xor (C j) (V j)) (sym p)
          | inr p ↦ other k p (omega arith) ∙ elim (cases_lt k x) [
            | inl f ↦ s₂.before k (omega arith) ∙ s₁.lower k (omega arith) f ∙ ap (λ t. K.xor t (V k)) (CElse k p)
            | inr f ↦ s₂.lower k (omega arith) g ∙ ap₂ K.xor (e k (omega arith) g ∙ CElse k p) (s₁.midst k (omega arith) (omega arith))
          ]
        ]

    upper : (k : ℕ) → k < w → places K v₃ (w + k) ≡ C k
    upper k g =
        elim (cases_eq k x) [
          | inl p ↦
              ap (λ j. places K v₃ (w + j)) p ∙ get_or-set_other (set v₂ (w + x) q) x (w + x) y K.zero (omega arith) ∙ get_or-set_same v₂ (w + x) q K.zero (omega arith)
              ∙ CThere ∙ ap C (sym p)
          | inr p ↦ other (w + k) (omega arith) (omega arith) ∙ elim (cases_lt k x) [
            | inl f ↦ s₂.midst (w + k) (omega arith) (omega arith) ∙ s₁.upper k (omega arith) f ∙ CElse k p
            | inr f ↦ s₂.upper k (omega arith) g ∙ e k (omega arith) g ∙ CElse k p
          ]
        ]

    pub around : (i : ℕ) → i < w + w → places K v₃ i ≡ grown K w V C i
    around i g =
        elim (cases_lt i w) [
          | inl f ↦ rw (lt-ltb i w f) (lower i f)
          | inr f ↦ rw (le-ltb i w f) (let p : i ≡ w + (i - w) = omega arith in ap (places K v₃) p ∙ upper (i - w) (omega arith))
        ]
