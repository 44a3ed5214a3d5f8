-- Steps 2 and 3 of the table gate for the garbler, level by level. Assumes nothing.
use Rattle.std.proofs.Common.{◌≡◌, ℕ, zero, suc, ◌+◌, ◌-◌, ◌*◌, ◌/◌, ◌%◌, ◌^◌, ◌<◌, ◌≤◌, Bool, true, false, cond, eqb, List, length, get_or, sym, refl, ap, ◌∙◌, subst, inl, inr, arith, pow_pos, pow_mono}
use borrow.Rule.Slice.PartMut.{put_mid}
use lib.Bits.{bit_xor}
use lib.Pow.{mod-pow-add}
use Rattle.std.proofs.lemmas.Nat.{mod_below}
use Rattle.std.proofs.lemmas.Bool.{cases_lt}
use Rattle.labels.specs.Kind.{Kind, times}
use Rattle.labels.specs.Numbers.{bit}
use Rattle.tables.specs.Mixed.{mixed}
use Rattle.labels.specs.Lists.{places}
use Rattle.tables.specs.Table.{masked, level, picked, halved, given, random}
use Rattle.tables.specs.Level.{Holds, Numbered}
use Rattle.tables.proofs.Numbering.{mixed_ext}
use Rattle.labels.proofs.Numbers.{two_pow}
use Rattle.tables.proofs.Masks.{twice_next, masked_ext}
use Rattle.tables.proofs.Parts.{mid_at, mid_before, mid_long}

-- the lowest p + 1 bits: bit p, then the lowest p
bit_of : (x : ℕ) → x < 2 → x ≡ cond (eqb x 1) 1 0
bit_of zero l = refl
bit_of (suc zero) l = refl
bit_of (suc (suc x)) l = absurd (omega arith)

pub low_suc : (i p : ℕ) → i % 2 ^ suc p ≡ cond (bit p i) 1 0 * 2 ^ p + i % 2 ^ p
low_suc i p =
    let e : suc p ≡ 1 + p = omega arith in
    ap (λ k. i % 2 ^ k) e ∙ mod-pow-add i 1 p ∙ ap (λ x. x * 2 ^ p + i % 2 ^ p) (bit_of (i / 2 ^ p % 2) (omega arith))

below_next : (q p : ℕ) → q < p → 2 ^ suc q + 2 ^ suc q ≤ 2 ^ suc p
below_next q p l = let e = two_pow (suc q) in let m = pow_mono {i = suc (suc q)} {j = suc p} (omega arith) in omega arith

module _ {L : Type 0} (K : Kind L) where
  side_in : (b : Bool) (q i : ℕ) → i < 2 ^ q → cond b 1 0 * 2 ^ q + i < 2 ^ suc q
  side_in true q i l = let e = two_pow q in omega arith
  side_in false q i l = let e = two_pow q in omega arith

  numbered_by : (F F₁ F₂ : L → ℕ → L) (gate m p w : ℕ) (Δ k₀ k₁ : L) (B : ℕ → L) (a b c : List ℕ) → F₁ ≡ F → F₂ ≡ F → w ≡ 2 ^ p → k₀ ≡ K.xor (B p) (times K false Δ) → k₁ ≡ K.xor (B p) (times K true Δ)
      → Numbered K F gate m p Δ B a
      → ((i : ℕ) → i < w → get_or b (w + w + i) 0 ≡ picked K F₁ gate m w k₀ i) → ((i : ℕ) → i < w + w → get_or b i 0 ≡ get_or a i 0)
      → ((i : ℕ) → i < w → get_or c (w + w + w + i) 0 ≡ picked K F₂ gate m w k₁ i) → ((i : ℕ) → i < w + w + w → get_or c i 0 ≡ get_or b i 0)
      → Numbered K F gate m (p + 1) Δ B c
  numbered_by F F₁ F₂ gate m p w Δ k₀ k₁ B a b c f₁ f₂ ew e₀ e₁ h hb ab hc bc q l =
      elim (cases_lt q p) [
        | inl g ↦ (λ s i r. let n = below_next q p g in let two = two_pow p in let d = side_in s q i r in
            bc (2 ^ suc q + (cond s 1 0 * 2 ^ q + i)) (omega arith) ∙ ab (2 ^ suc q + (cond s 1 0 * 2 ^ q + i)) (omega arith) ∙ h q g s i r)
        | inr g ↦ (let e : q ≡ p = omega arith in λ s i r. subst_at q e s i r)
      ]
    where
      here : (s : Bool) (i : ℕ) → i < 2 ^ p → get_or c (2 ^ suc p + (cond s 1 0 * 2 ^ p + i)) 0 ≡ picked K F gate m (2 ^ p) (K.xor (B p) (times K s Δ)) i
      here true i r =
          let two = two_pow p in
          let q : 2 ^ suc p + (1 * 2 ^ p + i) ≡ w + w + w + i = omega arith in
          ap (λ k. get_or c k 0) q ∙ hc i (omega arith) ∙ (λ j. picked K (f₂ j) gate m (ew j) (e₁ j) i)
      here false i r =
          let two = two_pow p in
          let q : 2 ^ suc p + (0 * 2 ^ p + i) ≡ w + w + i = omega arith in
          ap (λ k. get_or c k 0) q ∙ bc (w + w + i) (omega arith) ∙ hb i (omega arith) ∙ (λ j. picked K (f₁ j) gate m (ew j) (e₀ j) i)

      subst_at : (q : ℕ) → q ≡ p → (s : Bool) (i : ℕ) → i < 2 ^ q → get_or c (2 ^ suc q + (cond s 1 0 * 2 ^ q + i)) 0 ≡ picked K F gate m (2 ^ q) (K.xor (B q) (times K s Δ)) i
      subst_at q e s = subst (λ k. (i : ℕ) → i < 2 ^ k → get_or c (2 ^ suc k + (cond s 1 0 * 2 ^ k + i)) 0 ≡ picked K F gate m (2 ^ k) (K.xor (B k) (times K s Δ)) i) (sym e) (here s)

  -- a level's numbers xs and ys, written into their places
  pub numbered_more : (F F₁ F₂ : L → ℕ → L) (gate m p u s t : ℕ) (Δ k₀ k₁ : L) (B : ℕ → L) (a xs ys : List ℕ) → F₁ ≡ F → F₂ ≡ F → u ≡ 2 ^ p → k₀ ≡ K.xor (B p) (times K false Δ) → k₁ ≡ K.xor (B p) (times K true Δ)
      → 4 * u ≤ length a → Numbered K F gate m p Δ B a
      → s ≡ u → length xs ≡ s → ((i : ℕ) → i < length xs → get_or xs i 0 ≡ picked K F₁ gate m s k₀ i)
      → t ≡ u → length ys ≡ t → ((i : ℕ) → i < length ys → get_or ys i 0 ≡ picked K F₂ gate m t k₁ i)
      → Numbered K F gate m (p + 1) Δ B (put_mid (3 * u) (4 * u - 3 * u) (put_mid (2 * u) (3 * u - 2 * u) a xs) ys)
  numbered_more F F₁ F₂ gate m p u s t Δ k₀ k₁ B a xs ys f₁ f₂ eu e₀ e₁ l h es ex hx et ey hy =
      let b = put_mid (2 * u) (3 * u - 2 * u) a xs in
      let lb = mid_long (2 * u) (3 * u - 2 * u) a xs (omega arith) (omega arith) in
      numbered_by F F₁ F₂ gate m p u Δ k₀ k₁ B a b (put_mid (3 * u) (4 * u - 3 * u) b ys) f₁ f₂ eu e₀ e₁ h
      (λ i g. mid_at (2 * u) (3 * u - 2 * u) a xs i (u + u + i) 0 (omega arith) (omega arith) (omega arith) ∙ hx i (omega arith) ∙ ap (λ n. picked K F₁ gate m n k₀ i) es)
      (λ i g. mid_before (2 * u) (3 * u - 2 * u) a xs i 0 (omega arith) (omega arith))
      (λ i g. mid_at (3 * u) (4 * u - 3 * u) b ys i (u + u + u + i) 0 (omega arith) (omega arith) (omega arith) ∙ hy i (omega arith) ∙ ap (λ n. picked K F₂ gate m n k₁ i) et)
      (λ i g. mid_before (3 * u) (4 * u - 3 * u) b ys i 0 (omega arith) (omega arith))

  -- the mixed numbers are those of r(i)
  pub random_of : (F : L → ℕ → L) (gate m n s i : ℕ) (Δ : L) (B : ℕ → L) (nums : List ℕ) → Numbered K F gate m n Δ B nums
      → bit_xor s (mixed n (λ d. get_or nums (2 ^ (n - d) + i % 2 ^ (n - d)) 0)) ≡ random K F gate m n s Δ B i
  random_of F gate m n s i Δ B nums h =
      ap (bit_xor s)
      (mixed_ext n _ _ (λ d l.
      let e : n - d ≡ suc (n - suc d) = omega arith in
      ap (λ k. get_or nums (2 ^ k + i % 2 ^ k) 0) e ∙ ap (λ k. get_or nums (2 ^ suc (n - suc d) + k) 0) (low_suc i (n - suc d))
      ∙ h (n - suc d) (omega arith) (bit (n - suc d) i) (i % 2 ^ (n - suc d)) (mod_below i (2 ^ (n - suc d)) (pow_pos (n - suc d)))))

  -- one level of step 2, from its numbers N and its places W of V
  pub given_level : (F F' : L → ℕ → L) (gate m n d l : ℕ) (Δ base : L) (B V : ℕ → L) (nums : List ℕ) (v : List L) (N : ℕ → ℕ) (W : ℕ → L) (b : Bool) (j : ℕ) → d < n → l ≡ n - d → F' ≡ F
      → base ≡ B (n - suc d) → Numbered K F gate m n Δ B nums → Holds K (2 ^ (n - d)) (halved K n V d) v
      → ((i : ℕ) → i < 2 ^ l → N i ≡ get_or nums (2 ^ l + i) 0) → ((i : ℕ) → i < 2 ^ l → W i ≡ places K v i)
      → level K F' gate l (2 ^ (l - 1)) Δ base N W b j ≡ given K F gate m n Δ B V d b j
  given_level F F' gate m n d l Δ base B V nums v N W b j h el ef eb hn hv eN eW =
      let p : ℕ = n - suc d in
      let two = twice_next n d h in
      let q : l - 1 ≡ n - suc d = omega arith in
      let e : l ≡ suc (n - suc d) = omega arith in
      let el₂ : 2 ^ l ≡ 2 ^ (n - d) = ap (λ k. 2 ^ k) el in
      let e₂ : 2 ^ l ≡ 2 ^ suc (n - suc d) = ap (λ k. 2 ^ k) e in
      (λ x. masked K F' gate (el x) (2 ^ q x) (λ i. N (cond b 1 0 * 2 ^ q x + i)) (K.xor base (times K b Δ)) b W j)
      ∙ masked_ext K F' F gate (n - d) (2 ^ p) (λ i. N (cond b 1 0 * 2 ^ p + i)) (picked K F gate m (2 ^ p) (K.xor (B p) (times K b Δ))) (K.xor base (times K b Δ)) (K.xor (B p) (times K b Δ)) b W (halved K n V d) j ef
      (λ i g. let s = side_in b p i g in eN (cond b 1 0 * 2 ^ p + i) (omega arith) ∙ ap (λ k. get_or nums (k + (cond b 1 0 * 2 ^ p + i)) 0) e₂ ∙ hn p (omega arith) b i g)
      (ap (λ y. K.xor y (times K b Δ)) eb) (λ i g. eW i (omega arith) ∙ hv i (omega arith))
