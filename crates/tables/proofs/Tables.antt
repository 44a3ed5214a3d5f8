-- The table gate is sound. Assumes nothing.
use Rattle.std.proofs.Common.{◌≡◌, ℕ, zero, suc, ◌+◌, ◌-◌, ◌*◌, ◌^◌, ◌<◌, ◌≤◌, Bool, true, false, cond, sym, refl, ap, ◌∙◌, subst, ap₂, arith}
use lib.Bits.{bit_xor}
use Rattle.std.proofs.lemmas.Bool.{ne_eqb}
use Rattle.gates.specs.Tweak.{tweak}
use Rattle.labels.specs.Kind.{Kind, times, differs}
use Rattle.labels.proofs.Group.{group}
use Rattle.labels.specs.Numbers.{bit, number}
use Rattle.tables.specs.Mixed.{mixed}
use Rattle.tables.specs.Table.{sum, chosen, based, colours, halved, hot, hot_row, seen, picked, share, given, mask_row, taken, random, turned, made, found}
use Rattle.tables.proofs.Numbering.{bit_xor_lem, bit_zero, number_low, number_bit, number_xor, mixed_ext}
use Rattle.labels.proofs.Numbers.{two_pow, number_below, number_same}
use Rattle.tables.proofs.Sums.{times_differs, chosen_off}
use Rattle.gates.proofs.Halves.{colour_of_bit}
use Rattle.tables.proofs.OneHot.{eqb_same, Off, hot_off}

module _ {L : Type 0} (K : Kind L) where
  -- one halving
  fold_off : (Δ : L) (w x : ℕ) (b : Bool) (V W : ℕ → L) → x < w → Off K Δ (w + w) (cond b 1 0 * w + x) V W
      → Off K Δ w x (λ i. K.xor (V i) (V (i + w))) (λ i. K.xor (W i) (W (i + w)))
  fold_off Δ w x true V W l h i g =
      ap₂ K.xor (h i (omega arith) ∙ ap (λ v. K.xor (V i) (times K v Δ)) (ne_eqb i (1 * w + x) (omega arith)))
      (h (i + w) (omega arith) ∙ ap (λ v. K.xor (V (i + w)) (times K v Δ)) (eqb_same (i + w) (1 * w + x) i x (λ q. omega arith) (λ q. omega arith)))
      ∙ simp group
  fold_off Δ w x false V W l h i g =
      ap₂ K.xor (h i (omega arith) ∙ ap (λ v. K.xor (V i) (times K v Δ)) (eqb_same i (0 * w + x) i x (λ q. omega arith) (λ q. omega arith)))
      (h (i + w) (omega arith) ∙ ap (λ v. K.xor (V (i + w)) (times K v Δ)) (ne_eqb (i + w) (0 * w + x) (omega arith)))
      ∙ simp group

  -- all halvings: l levels are left after d of n
  halved_off : (Δ : L) (n : ℕ) (b : ℕ → Bool) (V W : ℕ → L) → Off K Δ (2 ^ n) (number n b) V W
      → (d l : ℕ) → l + d ≡ n → Off K Δ (2 ^ l) (number l b) (halved K n V d) (halved K n W d)
  halved_off Δ n b V W h zero l e = let q : n ≡ l = omega arith in subst (λ k. Off K Δ (2 ^ k) (number k b) V W) q h
  halved_off Δ n b V W h (suc d) l e =
      let q : l ≡ n - suc d = omega arith in
      let ih = halved_off Δ n b V W h d (suc l) (omega arith) in
      subst (λ k. Off K Δ (2 ^ l) (number l b) (λ i. K.xor (halved K n V d i) (halved K n V d (i + 2 ^ k))) (λ i. K.xor (halved K n W d i) (halved K n W d (i + 2 ^ k)))) q
      (fold_off Δ (2 ^ l) (number l b) (b l) (halved K n V d) (halved K n W d) (number_below l b) (λ i g. ih i (omega (arith, two_pow l))))

  -- the half of V that b names
  side_below : (b : Bool) (w i : ℕ) → i < w → cond b 1 0 * w + i < w + w
  side_below true w i l = omega arith
  side_below false w i l = omega arith

  side_off : (Δ : L) (w x : ℕ) (b : Bool) (V W : ℕ → L) → Off K Δ (w + w) (cond b 1 0 * w + x) V W
      → Off K Δ w x (λ i. V (cond b 1 0 * w + i)) (λ i. W (cond b 1 0 * w + i))
  side_off Δ w x b V W h i g =
      h (cond b 1 0 * w + i) (side_below b w i g)
      ∙ ap (λ v. K.xor (V (cond b 1 0 * w + i)) (times K v Δ)) (eqb_same (cond b 1 0 * w + i) (cond b 1 0 * w + x) i x (λ q. omega arith) (λ q. omega arith))

  swap_last : (x y z : L) → K.xor (K.xor x y) z ≡ K.xor (K.xor x z) y
  swap_last x y z = simp group

  -- what a part is without its mask
  unmask : (g : Bool → L) (b : Bool) (y S : L) → S ≡ K.xor (g b) y → K.xor S (times K b (K.xor (g false) (g true))) ≡ K.xor (g false) y
  unmask g true y S e = ap (λ u. K.xor u (K.xor (g false) (g true))) e ∙ simp group
  unmask g false y S e = ap (λ u. K.xor u K.zero) e ∙ simp group

  by_pairs : (a b c d : L) → K.xor (K.xor a b) (K.xor c d) ≡ K.xor (K.xor a c) (K.xor b d)
  by_pairs a b c d = simp group

  -- a label of a bit, from the wire's label of colour 0
  from_base : (A Δ : L) (p a : Bool) → K.xor A (times K a Δ) ≡ K.xor (K.xor A (times K p Δ)) (times K (differs p a) Δ)
  from_base A Δ p a = struck A (times K a Δ) (times K p Δ) ∙ ap (K.xor (K.xor A (times K p Δ))) (sym (times_differs K p a Δ))
    where
      struck : (x y z : L) → K.xor x y ≡ K.xor (K.xor x z) (K.xor z y)
      struck x y z = simp group

  differs_back : (p a : Bool) → differs (differs p a) p ≡ a
  differs_back true true = refl
  differs_back true false = refl
  differs_back false true = refl
  differs_back false false = refl

  all_in_all : (S C Δ : L) (u s R : Bool) → K.xor (K.xor S (times K u Δ)) (K.xor C (times K (differs R (differs s u)) Δ)) ≡ K.xor (K.xor (K.xor S (times K s Δ)) C) (times K R Δ)
  all_in_all S C Δ u s R =
      ap (λ y. K.xor (K.xor S (times K u Δ)) (K.xor C y)) (times_differs K R (differs s u) Δ ∙ ap (K.xor (times K R Δ)) (times_differs K s u Δ))
      ∙ struck (times K u Δ) (times K s Δ) (times K R Δ)
    where
      struck : (x y z : L) → K.xor (K.xor S x) (K.xor C (K.xor z (K.xor y x))) ≡ K.xor (K.xor (K.xor S y) C) z
      struck x y z = simp group

  module _ (F : L → ℕ → L) (gate m : ℕ) where
    share_off : (Δ : L) (l p j x : ℕ) (b : Bool) (V W : ℕ → L) (k : L) → x < 2 ^ p → Off K Δ (2 ^ suc p) (cond b 1 0 * 2 ^ p + x) V W
        → share K F gate m l (2 ^ p) k b W j ≡ K.xor (share K F gate m l (2 ^ p) k b V j) (times K (bit j (picked K F gate m (2 ^ p) k x)) Δ)
    share_off Δ l p j x b V W k g h =
        ap (λ u. K.xor u (F k (tweak gate (512 + 16 * l + j))))
        (chosen_off K j (2 ^ p) x (picked K F gate m (2 ^ p) k) (picked K F gate m (2 ^ p) k) (λ i. V (cond b 1 0 * 2 ^ p + i)) (λ i. W (cond b 1 0 * 2 ^ p + i)) Δ g (λ i _. refl)
        (side_off Δ (2 ^ p) x b V W (λ i f. h i (omega (arith, two_pow p)))))
        ∙ swap_last _ _ _

    -- what the evaluator finds of r at d
    number_at : ℕ → L → (ℕ → L) → (ℕ → L) → ℕ → ℕ
    number_at n Δ B E d = picked K F gate m (2 ^ (n - suc d)) (K.xor (B (n - suc d)) (times K (K.colour (E (n - suc d))) Δ)) (colours K (n - suc d) E)

    taken_off : (n j : ℕ) (Δ : L) (B E V W : ℕ → L) (masks : ℕ → ℕ → L) → ((k : ℕ) → k < n → E k ≡ K.xor (B k) (times K (K.colour (E k)) Δ))
        → Off K Δ (2 ^ n) (colours K n E) V W → (d : ℕ) → d < n → masks d j ≡ mask_row K F gate m n Δ B V d j
        → taken K F gate m n masks E W d j ≡ K.xor (given K F gate m n Δ B V d false j) (times K (bit j (number_at n Δ B E d)) Δ)
    unfolding number_at
    taken_off n j Δ B E V W masks hE h d l em =
        let p : ℕ = n - suc d in
        let c : Bool = K.colour (E p) in
        let q : n - d ≡ suc p = omega arith in
        let o = halved_off Δ n (λ k. K.colour (E k)) V W h d (suc p) (omega arith) in
        ap₂ (λ k y. K.xor (share K F gate m (n - d) (2 ^ p) k c (halved K n W d) j) (times K c y)) (hE p (omega arith)) em
        ∙ unmask (λ b. given K F gate m n Δ B V d b j) c _ _
        (share_off Δ (n - d) p j (colours K p E) c (halved K n V d) (halved K n W d) (K.xor (B p) (times K c Δ)) (number_below p (λ k. K.colour (E k))) o)

    -- the sum of k parts
    parts_off : (n j : ℕ) (Δ : L) (B E V W : ℕ → L) (masks : ℕ → ℕ → L) → ((k : ℕ) → k < n → E k ≡ K.xor (B k) (times K (K.colour (E k)) Δ))
        → Off K Δ (2 ^ n) (colours K n E) V W → ((d : ℕ) → d < n → masks d j ≡ mask_row K F gate m n Δ B V d j) → (k : ℕ) → k ≤ n
        → sum K k (λ d. taken K F gate m n masks E W d j) ≡ K.xor (sum K k (λ d. given K F gate m n Δ B V d false j)) (times K (bit j (mixed k (number_at n Δ B E))) Δ)
    parts_off n j Δ B E V W masks hE h hm zero l = sym (K.right K.zero) ∙ ap (λ v. K.xor K.zero (times K v Δ)) (sym (bit_zero j))
    parts_off n j Δ B E V W masks hE h hm (suc k) l =
        let u : Bool = bit j (mixed k (number_at n Δ B E)) in
        let v : Bool = bit j (number_at n Δ B E k) in
        ap₂ K.xor (parts_off n j Δ B E V W masks hE h hm k (omega arith)) (taken_off n j Δ B E V W masks hE h k l (hm k l))
        ∙ by_pairs _ (times K u Δ) _ (times K v Δ)
        ∙ ap (K.xor _) (sym (times_differs K u v Δ) ∙ ap (λ w. times K w Δ) (sym (bit_xor_lem j (mixed k (number_at n Δ B E)) (number_at n Δ B E k))))

    -- r at the evaluator's own place
    random_there : (n s : ℕ) (Δ : L) (B E : ℕ → L) → random K F gate m n s Δ B (colours K n E) ≡ bit_xor s (mixed n (number_at n Δ B E))
    unfolding number_at
    random_there n s Δ B E =
        let c : ℕ → Bool = λ k. K.colour (E k) in
        ap (bit_xor s)
        (mixed_ext n _ _ (λ d l. ap₂ (λ v i. picked K F gate m (2 ^ (n - suc d)) (K.xor (B (n - suc d)) (times K v Δ)) i)
        (number_bit n (n - suc d) c (omega arith)) (number_low n (n - suc d) c (omega arith))))

    -- what the evaluator finds, where the rows and the bits of f are the garbler's of some zero labels A, and E are labels of the bits a
    pub meets : (n j : ℕ) (rows E : ℕ → L) (masks : ℕ → ℕ → L) (f : ℕ → ℕ) (s : ℕ) (Δ : L) (A : ℕ → L) (row : ℕ → ℕ) (a : ℕ → Bool) → 1 ≤ n →
        let B : ℕ → L = λ k. based K Δ (A k) in
        K.colour Δ ≡ true
        → ((k : ℕ) → k < n → E k ≡ K.xor (A k) (times K (a k) Δ))
        → ((k : ℕ) → 1 ≤ k → k < n → rows k ≡ hot_row K F gate Δ B k)
        → ((d : ℕ) → d < n → masks d j ≡ mask_row K F gate m n Δ B (hot K F gate Δ B n) d j)
        → ((i : ℕ) → i < 2 ^ n → bit j (f i) ≡ bit j (turned K F gate m n s Δ B row (colours K n A) i))
        → found K F gate m n rows masks f E j ≡ K.xor (made K F gate m n s Δ A row j) (times K (bit j (row (number n a))) Δ)
    meets n j rows E masks f s Δ A row a ln hΔ hE hr hm hf =
        let B : ℕ → L = λ k. based K Δ (A k) in
        let V : ℕ → L = hot K F gate Δ B n in
        let W : ℕ → L = seen K F gate rows E n in
        let x : ℕ = colours K n E in
        let R : ℕ = row (number n a) in
        let N : ℕ = mixed n (number_at n Δ B E) in
        let hc : (k : ℕ) → k < n → K.colour (E k) ≡ differs (K.colour (A k)) (a k) = λ k l. ap K.colour (hE k l) ∙ colour_of_bit K (A k) Δ (a k) hΔ in
        let hB : (k : ℕ) → k < n → E k ≡ K.xor (B k) (times K (K.colour (E k)) Δ) =
        λ k l. hE k l ∙ from_base (A k) Δ (K.colour (A k)) (a k) ∙ ap (λ v. K.xor (B k) (times K v Δ)) (sym (hc k l)) in
        let o : Off K Δ (2 ^ n) x V W = hot_off K Δ F gate rows B E n hB hr n ln (omega arith) in
        let own : bit_xor x (colours K n A) ≡ number n a =
        number_xor n (λ k. K.colour (E k)) (λ k. K.colour (A k)) ∙ number_same n _ a (λ k l. ap (λ v. differs v (K.colour (A k))) (hc k l) ∙ differs_back (K.colour (A k)) (a k)) in
        let fx : bit j (turned K F gate m n s Δ B row (colours K n A) x) ≡ differs (bit j R) (differs (bit j s) (bit j N)) =
        ap₂ (λ y z. bit j (bit_xor (row y) z)) own (random_there n s Δ B E) ∙ bit_xor_lem j R (bit_xor s N) ∙ ap (differs (bit j R)) (bit_xor_lem j s N) in
        ap₂ K.xor (parts_off n j Δ B E V W masks hB o hm n (omega arith))
        (chosen_off K j (2 ^ n) x (turned K F gate m n s Δ B row (colours K n A)) f V W Δ (number_below n (λ k. K.colour (E k))) hf o ∙ ap (λ v. K.xor (chosen K j (2 ^ n) (turned K F gate m n s Δ B row (colours K n A)) V) (times K v Δ)) fx)
        ∙ all_in_all _ _ Δ (bit j N) (bit j s) (bit j R)
