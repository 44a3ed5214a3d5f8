-- The numbers of the random function, level after level. Assumes nothing.
use Rattle.std.proofs.Common.{◌≡◌, ℕ, zero, suc, ◌+◌, ◌-◌, ◌*◌, ◌%◌, ◌^◌, ◌<◌, ◌≤◌, List, length, get_or, set, sym, refl, ap, ◌∙◌, ap₂, inl, inr, mod-eq_of_lt, arith}
use lib.Bits.{bit_xor, xor_assoc, xor_comm, xor_zero_r}
use lib.Pow.{low}
use Rattle.std.proofs.lemmas.Bool.{cases_lt, cases_eq}
use Rattle.std.proofs.lemmas.List.{length-set, get_or-set_same, get_or-set_other}
use Rattle.tables.specs.Mixed.{mixed}
use Rattle.tables.proofs.Numbering.{mixed_ext, mod_longer}
use Rattle.labels.proofs.Numbers.{two_pow}

swap_last : (a b c : ℕ) → bit_xor (bit_xor a b) c ≡ bit_xor (bit_xor a c) b
swap_last a b c = xor_assoc a b c ∙ ap (bit_xor a) (xor_comm b c) ∙ sym (xor_assoc a c b)

-- the first number apart
mixed_first : (n : ℕ) (f : ℕ → ℕ) → mixed (suc n) f ≡ bit_xor (mixed n (λ d. f (suc d))) (f 0)
mixed_first zero f = refl
mixed_first (suc n) f = ap (λ x. bit_xor x (f (suc n))) (mixed_first n f) ∙ swap_last (mixed n (λ d. f (suc d))) (f 0) (f (suc n))

-- s ⊕ the numbers of i at the first n levels
abbrev pub level_mix : ℕ → List ℕ → ℕ → ℕ → ℕ
level_mix s nums n i = bit_xor s (mixed n (λ d. get_or nums (2 ^ (n - d) + i % 2 ^ (n - d)) 0))

next_mix : (s : ℕ) (nums : List ℕ) (n i : ℕ) → i < 2 ^ suc n → level_mix s nums (suc n) i ≡ bit_xor (level_mix s nums n (i % 2 ^ n)) (get_or nums (2 ^ suc n + i) 0)
next_mix s nums n i l =
    let top : suc n - 0 ≡ suc n = omega arith in
    ap (bit_xor s)
    (mixed_first n (λ d. get_or nums (2 ^ (suc n - d) + i % 2 ^ (suc n - d)) 0)
    ∙ ap₂ bit_xor
    (mixed_ext n _ _ (λ d g.
    let e : suc n - suc d ≡ n - d = omega arith in
    ap (λ k. get_or nums (2 ^ k + i % 2 ^ k) 0) e ∙ ap (λ k. get_or nums (2 ^ (n - d) + k) 0) (sym (mod_longer i (n - d) n (omega arith)))))
    (ap (λ k. get_or nums (2 ^ k + i % 2 ^ k) 0) top ∙ ap (λ k. get_or nums (2 ^ suc n + k) 0) (mod-eq_of_lt l)))
    ∙ sym (xor_assoc s _ _)

pub mix_none : (s : ℕ) (nums fs : List ℕ) → 0 < length fs → (i : ℕ) → i < 1 → get_or (set fs 0 s) i 0 ≡ level_mix s nums 0 i
mix_none s nums fs h i l = let q : i ≡ 0 = omega arith in ap (λ k. get_or (set fs 0 s) k 0) q ∙ get_or-set_same fs 0 s 0 h ∙ sym (xor_zero_r s)

-- one level more
pub mix_more : (s n m w : ℕ) (nums fs gs : List ℕ) → w ≡ 2 ^ n → m ≡ suc n → ((i : ℕ) → i < 2 ^ n → get_or fs i 0 ≡ level_mix s nums n i)
    → ((i : ℕ) → i < w → get_or gs i 0 ≡ bit_xor (get_or fs i 0) (get_or nums (2 * w + i) 0))
    → ((i : ℕ) → i < w → get_or gs (w + i) 0 ≡ bit_xor (get_or fs i 0) (get_or nums (3 * w + i) 0))
    → (i : ℕ) → i < 2 ^ m → get_or gs i 0 ≡ level_mix s nums m i
mix_more s n m w nums fs gs ew em h lo up i l =
    let two = two_pow n in
    let em₂ : 2 ^ m ≡ 2 ^ suc n = ap (λ k. 2 ^ k) em in
    elim (cases_lt i w) [
      | inl g ↦ (let a : 2 * w + i ≡ 2 ^ suc n + i = omega arith in
          let b : i % 2 ^ n ≡ i = mod-eq_of_lt (let e : i < 2 ^ n = omega arith in e) in
          lo i g ∙ ap₂ (λ x k. bit_xor x (get_or nums k 0)) (h i (omega arith) ∙ ap (level_mix s nums n) (sym b)) a)
      | inr g ↦ (let j : ℕ = i - w in
          let q : i ≡ w + j = omega arith in
          let below : j < 2 ^ n = omega arith in
          let a : 3 * w + j ≡ 2 ^ suc n + i = omega arith in
          let p : i ≡ 1 * 2 ^ n + j = omega arith in
          let b : i % 2 ^ n ≡ j = ap (λ k. k % 2 ^ n) p ∙ low 1 n below in
          ap (λ k. get_or gs k 0) q ∙ up j (omega arith) ∙ ap₂ (λ x k. bit_xor x (get_or nums k 0)) (h j below ∙ ap (level_mix s nums n) (sym b)) a)
    ]
    ∙ sym (next_mix s nums n i (omega arith)) ∙ ap (λ k. level_mix s nums k i) (sym em)

-- the first i places of a level
pub record Leveled (w i : ℕ) (nums T t : List ℕ) : Type 0 where
  pub lower : (k : ℕ) → k < i → get_or t k 0 ≡ bit_xor (get_or T k 0) (get_or nums (2 * w + k) 0)
  pub upper : (k : ℕ) → k < i → get_or t (w + k) 0 ≡ bit_xor (get_or T k 0) (get_or nums (3 * w + k) 0)
  pub still : (k : ℕ) → i ≤ k → k < w → get_or t k 0 ≡ get_or T k 0

pub leveled_none : (w : ℕ) (nums T : List ℕ) → Leveled w 0 nums T T
leveled_none w nums T = record { lower = λ k l. absurd (omega arith); upper = λ k l. absurd (omega arith); still = λ k _ _. refl }

pub leveled_more : (w i h : ℕ) (nums T t : List ℕ) → Leveled w i nums T t → i < w → 2 * w ≤ length t → h ≡ i + 1
    → Leveled w h nums T (set (set t i (bit_xor (get_or t i 0) (get_or nums (2 * w + i) 0))) (w + i) (bit_xor (get_or t i 0) (get_or nums (3 * w + i) 0)))
leveled_more w i h nums T t s l long eh =
    let x : ℕ = bit_xor (get_or t i 0) (get_or nums (2 * w + i) 0) in
    let y : ℕ = bit_xor (get_or t i 0) (get_or nums (3 * w + i) 0) in
    let u = set t i x in
    let len = length-set t i x in
    let old = s.still i (omega arith) l in
    record {
      lower = λ k g. get_or-set_other u (w + i) k y 0 (omega arith) ∙ elim (cases_eq k i) [
        | inl e ↦ ap (λ j. get_or u j 0) e ∙ get_or-set_same t i x 0 (omega arith) ∙ ap (λ v. bit_xor v (get_or nums (2 * w + i) 0)) old ∙ ap (λ j. bit_xor (get_or T j 0) (get_or nums (2 * w + j) 0)) (sym e)
        | inr e ↦ get_or-set_other t i k x 0 e ∙ s.lower k (omega arith)
      ];
      upper = λ k g. elim (cases_eq k i) [
        | inl e ↦ ap (λ j. get_or (set u (w + i) y) (w + j) 0) e ∙ get_or-set_same u (w + i) y 0 (omega arith) ∙ ap (λ v. bit_xor v (get_or nums (3 * w + i) 0)) old ∙ ap (λ j. bit_xor (get_or T j 0) (get_or nums (3 * w + j) 0)) (sym e)
        | inr e ↦ get_or-set_other u (w + i) (w + k) y 0 (omega arith) ∙ get_or-set_other t i (w + k) x 0 (omega arith) ∙ s.upper k (omega arith)
      ];
      still = λ k g m. get_or-set_other u (w + i) k y 0 (omega arith) ∙ get_or-set_other t i k x 0 (omega arith) ∙ s.still k (omega arith) m;
    }
