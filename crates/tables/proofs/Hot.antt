-- Step 1 of the table gate, level by level in place. Assumes nothing.
use Rattle.std.proofs.Common.{◌≡◌, ℕ, zero, suc, ◌+◌, ◌-◌, ◌*◌, ◌^◌, ◌<◌, ◌≤◌, Bool, cond, eqb, List, length, set, sym, ap, ◌∙◌, ap₂, inl, inr, add_comm, add-one, arith, length-set, get_or-set_other, get_or-set_same, pow_mono}
use Rattle.std.proofs.lemmas.Bool.{cases_lt, lt-ltb, le-ltb}
use Rattle.gates.specs.Tweak.{tweak}
use Rattle.labels.specs.Kind.{Kind}
use Rattle.labels.specs.Lists.{places}
use Rattle.tables.specs.Table.{sum, grown, filled, hashed, hot, hot_row, seen, colours}
use Rattle.tables.specs.Level.{Holds}
use Rattle.labels.proofs.Numbers.{two_pow}
use Rattle.tables.proofs.Sums.{sum_ext}

-- 2^(j+1) places are within 2^n
pub next_fits : (j n : ℕ) → j < n → 2 ^ j + 2 ^ j ≤ 2 ^ n
next_fits j n l = let e = two_pow j in let m = pow_mono {i = suc j} {j = n} l in omega arith

pub two_fit : (n : ℕ) → 1 ≤ n → 2 ≤ 2 ^ n
two_fit n l = pow_mono {i = 1} {j = n} l

-- n is below 2^n
pub more_than : (n : ℕ) → n < 2 ^ n
more_than zero = omega arith
more_than (suc n) = let h = more_than n in let e = two_pow n in omega arith

module _ {L : Type 0} (K : Kind L) where
  pub grown_ext : (w : ℕ) (V W c d : ℕ → L) → ((i : ℕ) → i < w → V i ≡ W i) → ((i : ℕ) → i < w → c i ≡ d i) → (i : ℕ) → i < w + w → grown K w V c i ≡ grown K w W d i
  grown_ext w V W c d h e i l =
      elim (cases_lt i w) [ inl a ↦ rw (lt-ltb i w a) (ap₂ K.xor (e i a) (h i a)) | inr a ↦ rw (le-ltb i w a) (e (i - w) (omega arith)) ]

  module _ (F : L → ℕ → L) (gate : ℕ) where
    hashed_ext : (w : ℕ) (V W : ℕ → L) → ((i : ℕ) → i < w → V i ≡ W i) → (i : ℕ) → i < w → hashed K F gate w V i ≡ hashed K F gate w W i
    hashed_ext w V W h i l = ap (λ y. F y (tweak gate (w + i))) (h i l)

    hot_step : (Δ : L) (B : ℕ → L) (j i : ℕ) → 1 ≤ j → hot K F gate Δ B (j + 1) i ≡ grown K (2 ^ j) (hot K F gate Δ B j) (hashed K F gate (2 ^ j) (hot K F gate Δ B j)) i
    hot_step Δ B zero i l = absurd (omega arith)
    hot_step Δ B (suc j) i l = ap (λ m. hot K F gate Δ B m i) (add-one (suc j))

    pub hot_none : (Δ : L) (B : ℕ → L) (v : List L) (x y : L) → 2 ≤ length v → x ≡ K.xor (B 0) Δ → y ≡ B 0 → Holds K 2 (hot K F gate Δ B 1) (set (set v 0 x) 1 y)
    hot_none Δ B v x y l ex ey zero g = get_or-set_other (set v 0 x) 1 0 y K.zero (omega arith) ∙ get_or-set_same v 0 x K.zero (omega arith) ∙ ex
    hot_none Δ B v x y l ex ey (suc zero) g = get_or-set_same (set v 0 x) 1 y K.zero (let e = length-set v 0 x in omega arith) ∙ ey
    hot_none Δ B v x y l ex ey (suc (suc i)) g = absurd (omega arith)

    pub hot_more : (F' : L → ℕ → L) (Δ : L) (B : ℕ → L) (j w : ℕ) (v u : List L) → F' ≡ F → 1 ≤ j → w ≡ 2 ^ j → Holds K (2 ^ j) (hot K F gate Δ B j) v
        → Holds K (w + w) (grown K w (places K v) (hashed K F' gate w (places K v))) u → Holds K (2 ^ (j + 1)) (hot K F gate Δ B (j + 1)) u
    hot_more F' Δ B j w v u f l e h s i g =
        let p = two_pow j in
        let q : 2 ^ (j + 1) ≡ 2 ^ suc j = ap (λ k. 2 ^ k) (add-one j) in
        let below : i < 2 ^ j + 2 ^ j = omega arith in
        s i (omega arith)
        ∙ ap₂ (λ n G. grown K n (places K v) (hashed K G gate n (places K v)) i) e f
        ∙ grown_ext (2 ^ j) (places K v) (hot K F gate Δ B j) (hashed K F gate (2 ^ j) (places K v)) (hashed K F gate (2 ^ j) (hot K F gate Δ B j)) h (hashed_ext (2 ^ j) (places K v) (hot K F gate Δ B j) h) i below
        ∙ sym (hot_step Δ B j i l)

    pub row_more : (F' : L → ℕ → L) (Δ : L) (B : ℕ → L) (j w k : ℕ) (v : List L) (b a r : L) → F' ≡ F → w ≡ 2 ^ j → suc k ≡ j → Holds K (2 ^ j) (hot K F gate Δ B j) v
        → a ≡ sum K w (hashed K F' gate w (places K v)) → b ≡ B j → r ≡ K.xor b a → r ≡ hot_row K F gate Δ B (suc k)
    row_more F' Δ B j w k v b a r f e q h ea eb er =
        er
        ∙ ap₂ K.xor eb (ea ∙ ap₂ (λ n G. sum K n (hashed K G gate n (places K v))) e f ∙ sum_ext K (2 ^ j) _ _ (hashed_ext (2 ^ j) (places K v) (hot K F gate Δ B j) h))
        ∙ ap (hot_row K F gate Δ B) (sym q)

    filled_ext : (w x : ℕ) (whole : L) (c d : ℕ → L) → ((i : ℕ) → i < w → c i ≡ d i) → (i : ℕ) → i < w → filled K w x whole c i ≡ filled K w x whole d i
    filled_ext w x whole c d h i l =
        ap₂ (λ s y. cond (eqb i x) (K.xor whole s) y) (sum_ext K w _ _ (λ k g. ap (cond (eqb k x) K.zero) (h k g))) (h i l)

    seen_step : (R E : ℕ → L) (j i : ℕ) → 1 ≤ j
        → seen K F gate R E (j + 1) i ≡ grown K (2 ^ j) (seen K F gate R E j) (filled K (2 ^ j) (colours K j E) (K.xor (R j) (E j)) (hashed K F gate (2 ^ j) (seen K F gate R E j))) i
    seen_step R E zero i l = absurd (omega arith)
    seen_step R E (suc j) i l = ap (λ m. seen K F gate R E m i) (add-one (suc j))

    pub seen_none : (R E : ℕ → L) (v : List L) (x y : L) → 2 ≤ length v → x ≡ E 0 → y ≡ E 0 → Holds K 2 (seen K F gate R E 1) (set (set v 0 x) 1 y)
    seen_none R E v x y l ex ey zero g = get_or-set_other (set v 0 x) 1 0 y K.zero (omega arith) ∙ get_or-set_same v 0 x K.zero (omega arith) ∙ ex
    seen_none R E v x y l ex ey (suc zero) g = get_or-set_same (set v 0 x) 1 y K.zero (let e = length-set v 0 x in omega arith) ∙ ey
    seen_none R E v x y l ex ey (suc (suc i)) g = absurd (omega arith)

    pub seen_more : (F' : L → ℕ → L) (R E : ℕ → L) (j w x : ℕ) (whole : L) (v u : List L) → F' ≡ F → 1 ≤ j → w ≡ 2 ^ j → x ≡ colours K j E → whole ≡ K.xor (R j) (E j)
        → Holds K (2 ^ j) (seen K F gate R E j) v → Holds K (w + w) (grown K w (places K v) (filled K w x whole (hashed K F' gate w (places K v)))) u
        → Holds K (2 ^ (j + 1)) (seen K F gate R E (j + 1)) u
    seen_more F' R E j w x whole v u f l e ex ew h s i g =
        let p = two_pow j in
        let q : 2 ^ (j + 1) ≡ 2 ^ suc j = ap (λ k. 2 ^ k) (add-one j) in
        let below : i < 2 ^ j + 2 ^ j = omega arith in
        s i (omega arith)
        ∙ ap₂ (λ n G. grown K n (places K v) (filled K n x whole (hashed K G gate n (places K v))) i) e f
        ∙ ap₂ (λ y z. grown K (2 ^ j) (places K v) (filled K (2 ^ j) y z (hashed K F gate (2 ^ j) (places K v))) i) ex ew
        ∙ grown_ext (2 ^ j) (places K v) (seen K F gate R E j) _ _ h
        (filled_ext (2 ^ j) (colours K j E) (K.xor (R j) (E j)) (hashed K F gate (2 ^ j) (places K v)) (hashed K F gate (2 ^ j) (seen K F gate R E j)) (hashed_ext (2 ^ j) (places K v) (seen K F gate R E j) h)) i below
        ∙ sym (seen_step R E j i l)

  pub colours_more : (E : ℕ → L) (j w x a c : ℕ) (b : Bool) (e : L) → x ≡ colours K j E → w ≡ 2 ^ j → b ≡ K.colour e → e ≡ E j → a ≡ cond b 1 0 * w → c ≡ x + a → c ≡ colours K (j + 1) E
  colours_more E j w x a c b e ex ew eb ee ea ec =
      ec ∙ ap₂ ◌+◌ ex (ea ∙ ap₂ (λ v n. cond v 1 0 * n) (eb ∙ ap K.colour ee) ew) ∙ add_comm (colours K j E) (cond (K.colour (E j)) 1 0 * 2 ^ j) ∙ ap (λ k. colours K k E) (sym (add-one j))
