-- Labels in buckets, by bits of their numbers. Assumes nothing.
use Rattle.std.proofs.Common.{◌≡◌, ℕ, zero, suc, ◌+◌, ◌-◌, ◌*◌, ◌/◌, ◌%◌, ◌^◌, ◌<◌, ◌≤◌, eqb, List, length, set, sym, refl, ap, ◌∙◌, ap₂, inl, inr, add-one, arith, pow_pos, shr-shr}
use lib.Pow.{field}
use Rattle.std.proofs.lemmas.Bool.{cases_lt, cases_eq, eq-eqb, ne_eqb}
use Rattle.std.proofs.lemmas.List.{get_or-set_same, get_or-set_other}
use Rattle.std.proofs.lemmas.Nat.{mod_below, shr_le}
use Rattle.labels.specs.Kind.{Kind, times}
use Rattle.labels.proofs.Group.{group}
use Rattle.labels.specs.Lists.{places}
use Rattle.tables.specs.Table.{sum, chosen}
use Rattle.tables.specs.Level.{bucket, Sorted}
use Rattle.tables.proofs.Numbering.{mod_longer}
use Rattle.labels.proofs.Numbers.{two_pow}
use Rattle.tables.proofs.Sums.{sum_ext, sum_more, sum_all, sum_off}

-- one bit further on
next_bit : (j e p : ℕ) → p / 2 ^ (j + 1) % 2 ^ e ≡ p / 2 ^ j % 2 ^ suc e / 2
next_bit j e p =
    ap (λ x. x % 2 ^ e) (sym (shr-shr p j 1)) ∙ sym (field (p / 2 ^ j) e 1) ∙ ap (λ k. p / 2 ^ j % 2 ^ k / 2) (add-one e)

next_below : (j e p : ℕ) → p / 2 ^ j % 2 ^ suc e / 2 < 2 ^ e
next_below j e p =
    let n = next_bit j e p in
    let b = mod_below (p / 2 ^ (j + 1)) (2 ^ e) (pow_pos e) in
    omega arith

-- the buckets that are left of four bits
half_left : (b : ℕ) → b < 4 → 8 / 2 ^ b ≡ 2 ^ (3 - b)
half_left zero l = refl
half_left (suc zero) l = refl
half_left (suc (suc zero)) l = refl
half_left (suc (suc (suc zero))) l = refl
half_left (suc (suc (suc (suc b)))) l = absurd (omega arith)

module _ {L : Type 0} (K : Kind L) where
  sum_nothing : (n : ℕ) → sum K n (λ _. K.zero) ≡ K.zero
  sum_nothing zero = refl
  sum_nothing (suc n) = ap (λ x. K.xor x K.zero) (sum_nothing n) ∙ K.right K.zero

  sum_both : (n : ℕ) (f g : ℕ → L) → sum K n (λ i. K.xor (f i) (g i)) ≡ K.xor (sum K n f) (sum K n g)
  sum_both zero f g = sym (K.right K.zero)
  sum_both (suc n) f g = ap (λ x. K.xor x (K.xor (f n) (g n))) (sum_both n f g) ∙ by_pairs (sum K n f) (sum K n g) (f n) (g n)
    where
      by_pairs : (a b c d : L) → K.xor (K.xor a b) (K.xor c d) ≡ K.xor (K.xor a c) (K.xor b d)
      by_pairs a b c d = simp group

  -- all buckets have all labels
  sum_buckets : (n w : ℕ) (q : ℕ → ℕ) (V : ℕ → L) → ((i : ℕ) → i < w → q i < n) → sum K n (λ k. sum K w (λ i. times K (eqb k (q i)) (V i))) ≡ sum K w V
  sum_buckets n zero q V h = sum_nothing n
  sum_buckets n (suc w) q V h =
      let S : ℕ → L = λ k. sum K w (λ i. times K (eqb k (q i)) (V i)) in
      sum_off K n (q w) S (λ k. K.xor (S k) (times K (eqb k (q w)) (V w))) (λ _. V w) (h w (omega arith)) (λ k _. refl)
      ∙ ap (λ x. K.xor x (V w)) (sum_buckets n w q V (λ i l. h i (omega arith)))

  -- two buckets of q's numbers are one of their halves
  of_two : (k q : ℕ) (x : L) → times K (eqb k (q / 2)) x ≡ K.xor (times K (eqb (2 * k) q) x) (times K (eqb (2 * k + 1) q) x)
  of_two k q x =
      elim (cases_eq (2 * k) q) [
        | inl e ↦
            ap (λ v. times K v x) (eq-eqb k (q / 2) (omega arith)) ∙ sym (K.right x)
            ∙ ap₂ (λ u v. K.xor (times K u x) (times K v x)) (sym (eq-eqb (2 * k) q e)) (sym (ne_eqb (2 * k + 1) q (omega arith)))
        | inr e ↦ elim (cases_eq (2 * k + 1) q) [
          | inl d ↦
              ap (λ v. times K v x) (eq-eqb k (q / 2) (omega arith)) ∙ sym (K.comm K.zero x ∙ K.right x)
              ∙ ap₂ (λ u v. K.xor (times K u x) (times K v x)) (sym (ne_eqb (2 * k) q e)) (sym (eq-eqb (2 * k + 1) q d))
          | inr d ↦
              ap (λ v. times K v x) (ne_eqb k (q / 2) (omega arith)) ∙ sym (K.right K.zero)
              ∙ ap₂ (λ u v. K.xor (times K u x) (times K v x)) (sym (ne_eqb (2 * k) q e)) (sym (ne_eqb (2 * k + 1) q d))
        ]
      ]

  -- an odd bucket has labels of odd numbers
  of_odd : (k q : ℕ) (x : L) → times K (eqb (2 * k + 1) q) x ≡ times K (eqb k (q / 2)) (times K (eqb (q % 2) 1) x)
  of_odd k q x =
      elim (cases_eq (2 * k + 1) q) [
        | inl e ↦ ap (λ v. times K v x) (eq-eqb (2 * k + 1) q e) ∙ sym (ap₂ (λ u v. times K u (times K v x)) (eq-eqb k (q / 2) (omega arith)) (eq-eqb (q % 2) 1 (omega arith)))
        | inr e ↦ ap (λ v. times K v x) (ne_eqb (2 * k + 1) q e) ∙ elim (cases_eq k (q / 2)) [
          | inl d ↦ sym (ap₂ (λ u v. times K u (times K v x)) (eq-eqb k (q / 2) d) (ne_eqb (q % 2) 1 (omega arith)))
          | inr d ↦ sym (ap (λ u. times K u (times K (eqb (q % 2) 1) x)) (ne_eqb k (q / 2) d))
        ]
      ]

  module _ (w : ℕ) (p : ℕ → ℕ) (V : ℕ → L) where
    bucket_fold : (j e k : ℕ) → bucket K (j + 1) (2 ^ e) w p V k ≡ K.xor (bucket K j (2 ^ suc e) w p V (2 * k)) (bucket K j (2 ^ suc e) w p V (2 * k + 1))
    bucket_fold j e k =
        sum_ext K w _ _ (λ i _. ap (λ q. times K (eqb k q) (V i)) (next_bit j e (p i)) ∙ of_two k (p i / 2 ^ j % 2 ^ suc e) (V i))
        ∙ sum_both w (λ i. times K (eqb (2 * k) (p i / 2 ^ j % 2 ^ suc e)) (V i)) (λ i. times K (eqb (2 * k + 1) (p i / 2 ^ j % 2 ^ suc e)) (V i))

    bucket_odd : (j e : ℕ) → sum K (2 ^ e) (λ k. bucket K j (2 ^ suc e) w p V (2 * k + 1)) ≡ chosen K j w p V
    bucket_odd j e =
        sum_ext K (2 ^ e) _ _ (λ k _. sum_ext K w _ _ (λ i _. of_odd k (p i / 2 ^ j % 2 ^ suc e) (V i)))
        ∙ sum_buckets (2 ^ e) w (λ i. p i / 2 ^ j % 2 ^ suc e / 2) (λ i. times K (eqb (p i / 2 ^ j % 2 ^ suc e % 2) 1) (V i)) (λ i _. next_below j e (p i))
        ∙ sum_ext K w _ _ (λ i _. ap (λ n. times K (eqb n 1) (V i)) (mod_longer (p i / 2 ^ j) 1 (suc e) (omega arith)))

    -- the buckets as the labels leave them
    pub sorted_first : (t : List L) → ((i : ℕ) → i < 64 → places K t i ≡ bucket K (4 * (i / 16)) 16 w p V (i % 16)) → Sorted K 0 w p V t
    sorted_first t h = record {
      here = λ _ k l.
          let i : 16 * 0 + k ≡ k = omega arith in
          let a : 4 * (k / 16) ≡ 0 = omega arith in
          let b : k % 16 ≡ k = omega arith in
          ap (places K t) i ∙ h k (omega arith) ∙ ap₂ (λ n m. bucket K n 16 w p V m) a b;
      later = λ g k _ l r.
          let a : 4 * ((16 * g + k) / 16) ≡ 4 * g = omega arith in
          let b : (16 * g + k) % 16 ≡ k = omega arith in
          h (16 * g + k) (omega arith) ∙ ap₂ (λ n m. bucket K n 16 w p V m) a b;
    }

    module _ (j : ℕ) (t u : List L) (small : j < 16) (s : Sorted K j w p V t) where
      abbrev e : ℕ
      e = 3 - j % 4

      four : 2 ^ (4 - j % 4) ≡ 2 ^ suc e
      four = let q : 4 - j % 4 ≡ suc (3 - j % 4) = omega arith in ap (λ k. 2 ^ k) q

      half : 8 / 2 ^ (j % 4) ≡ 2 ^ e
      half = half_left (j % 4) (omega arith)

      bucket_at : (k : ℕ) → k < 2 ^ suc e → places K t (16 * (j / 4) + k) ≡ bucket K j (2 ^ suc e) w p V k
      bucket_at k l = let f = four in s.here small k (omega arith) ∙ ap (λ c. bucket K j c w p V k) four

      pub wire_taken : (r : L) → r ≡ sum K (8 / 2 ^ (j % 4)) (λ k. places K t (16 * (j / 4) + (2 * k + 1))) → r ≡ chosen K j w p V
      wire_taken r er =
          let two = two_pow e in
          er ∙ ap (λ n. sum K n (λ k. places K t (16 * (j / 4) + (2 * k + 1)))) half
          ∙ sum_ext K (2 ^ e) _ _ (λ k l. bucket_at (2 * k + 1) (omega arith))
          ∙ bucket_odd j e

      pub sorted_next : ((k : ℕ) → k < 8 / 2 ^ (j % 4) → places K u (16 * (j / 4) + k) ≡ K.xor (places K t (16 * (j / 4) + 2 * k)) (places K t (16 * (j / 4) + (2 * k + 1))))
          → ((i : ℕ) → 16 * (j / 4) + 8 / 2 ^ (j % 4) ≤ i → places K u i ≡ places K t i) → Sorted K (j + 1) w p V u
      sorted_next folded others =
          let few = shr_le 8 (j % 4) in
          let h = half in
          let two = two_pow e in
          record {
            here = λ m k l. elim (cases_eq ((j + 1) % 4) 0) [
              | inl z ↦ (let c : 2 ^ (4 - (j + 1) % 4) ≡ 16 = ap (λ n. 2 ^ (4 - n)) z in
                  let a : 4 * ((j + 1) / 4) ≡ j + 1 = omega arith in
                  others (16 * ((j + 1) / 4) + k) (omega arith) ∙ s.later ((j + 1) / 4) k (omega arith) (omega arith) (omega arith)
                  ∙ ap₂ (λ n d. bucket K n d w p V k) a (sym c))
              | inr z ↦ (let g : (j + 1) / 4 ≡ j / 4 = omega arith in
                  let n : 4 - (j + 1) % 4 ≡ 3 - j % 4 = omega arith in
                  let c : 2 ^ (4 - (j + 1) % 4) ≡ 2 ^ (3 - j % 4) = ap (λ i. 2 ^ i) n in
                  ap (λ i. places K u (16 * i + k)) g ∙ folded k (omega arith)
                  ∙ ap₂ K.xor (bucket_at (2 * k) (omega arith)) (bucket_at (2 * k + 1) (omega arith)) ∙ sym (bucket_fold j e k)
                  ∙ ap (λ d. bucket K (j + 1) d w p V k) (sym c))
            ];
            later = λ g k l m r. others (16 * g + k) (omega arith) ∙ s.later g k (omega arith) m r;
          }

    -- one more label, of number n
    pub sorted_more : (q n : ℕ) (x : L) (t u : List L) → ((i : ℕ) → i < 64 → places K t i ≡ bucket K (4 * (i / 16)) 16 w p V (i % 16)) → n ≡ p w → x ≡ V w → q ≡ w + 1
        → ((i : ℕ) → i < 64 → places K u i ≡ K.xor (places K t i) (times K (eqb (i % 16) (n / 2 ^ (4 * (i / 16)) % 16)) x))
        → (i : ℕ) → i < 64 → places K u i ≡ bucket K (4 * (i / 16)) 16 q p V (i % 16)
    sorted_more q n x t u h en ex eq eu i l =
        let f : ℕ → L = λ k. times K (eqb (i % 16) (p k / 2 ^ (4 * (i / 16)) % 16)) (V k) in
        sum_all K (w + 1) q f _ (sum_more K w f (places K t i) _ _ (h i l) (ap₂ (λ m y. times K (eqb (i % 16) (m / 2 ^ (4 * (i / 16)) % 16)) y) en ex) (eu i l)) (sym eq)

  -- the sixteens below g have the label of number n too, and the others are as they were
  pub record Added (g n : ℕ) (x : L) (T t : List L) : Type 0 where
    pub done : (i : ℕ) → i < 64 → i / 16 < g → places K t i ≡ K.xor (places K T i) (times K (eqb (i % 16) (n / 2 ^ (4 * (i / 16)) % 16)) x)
    pub still : (i : ℕ) → i < 64 → g ≤ i / 16 → places K t i ≡ places K T i

  pub added_none : (n : ℕ) (x : L) (T : List L) → Added 0 n x T T
  added_none n x T = record { done = λ i _ l. absurd (omega arith); still = λ i _ _. refl }

  pub added_more : (g h n z : ℕ) (x : L) (T t u : List L) → length t ≡ 64 → g < 4 → z ≡ 16 * g + n / 2 ^ (4 * g) % 16 → u ≡ set t z (K.xor (places K t z) x) → h ≡ g + 1
      → Added g n x T t → Added h n x T u
  added_more g h n z x T t u long l ez eu eh s =
      let y : L = K.xor (places K t z) x in
      let r : ℕ = n / 2 ^ (4 * g) % 16 in
      let small : r < 16 = omega arith in
      let same : (i : ℕ) → i / 16 ≡ g → n / 2 ^ (4 * (i / 16)) % 16 ≡ r = λ i q. ap (λ d. n / 2 ^ (4 * d) % 16) q in
      record {
        done = λ i k m. ap (λ v. places K v i) eu ∙ elim (cases_eq i z) [
          | inl e ↦ (let q : i / 16 ≡ g = omega arith in
              let b : i % 16 ≡ r = omega arith in
              ap (places K (set t z y)) e ∙ get_or-set_same t z y K.zero (omega arith) ∙ ap (λ v. K.xor v x) (s.still z (omega arith) (omega arith))
              ∙ ap₂ (λ d v. K.xor (places K T d) (times K v x)) (sym e) (sym (eq-eqb (i % 16) (n / 2 ^ (4 * (i / 16)) % 16) (b ∙ sym (same i q)))))
          | inr e ↦ get_or-set_other t z i y K.zero e ∙ elim (cases_lt (i / 16) g) [
            | inl f ↦ s.done i k f
            | inr f ↦ (let q : i / 16 ≡ g = omega arith in
                s.still i k (omega arith) ∙ sym (K.right (places K T i))
                ∙ ap (λ v. K.xor (places K T i) (times K v x)) (sym (ne_eqb (i % 16) (n / 2 ^ (4 * (i / 16)) % 16) (λ d. let b : i % 16 ≡ r = d ∙ same i q in e (omega arith)))))
          ]
        ];
        still = λ i k m. ap (λ v. places K v i) eu ∙ get_or-set_other t z i y K.zero (omega arith) ∙ s.still i k (omega arith);
      }
