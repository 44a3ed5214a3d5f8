-- The garbler's table gate, put together. Assumes nothing.
use Rattle.std.proofs.Common.{◌≡◌, ℕ, suc, ◌+◌, ◌-◌, ◌%◌, ◌^◌, ◌<◌, Bool, true, false, List, get_or, refl, ap, ◌∙◌, ap₂, arith}
use lib.Bits.{bit_xor}
use Rattle.labels.specs.Kind.{Kind, times}
use Rattle.labels.proofs.Group.{group}
use Rattle.labels.specs.Numbers.{bit}
use Rattle.tables.specs.Mixed.{mixed}
use Rattle.tables.specs.Table.{sum, chosen, picked, halved, hot, given, mask_row, random, turned}
use Rattle.tables.specs.Level.{Numbered}
use Rattle.tables.proofs.Givens.{random_of}
use Rattle.tables.proofs.Masks.{twice_next, masked_ext, chosen_ext, halved_ext}
use Rattle.tables.proofs.Sums.{sum_ext}

module _ {L : Type 0} (K : Kind L) where
  given_ext : (F : L → ℕ → L) (gate m n : ℕ) (Δ : L) (B V W : ℕ → L) (d : ℕ) (b : Bool) (j : ℕ) → ((i : ℕ) → i < 2 ^ n → V i ≡ W i) → d < n → given K F gate m n Δ B V d b j ≡ given K F gate m n Δ B W d b j
  given_ext F gate m n Δ B V W d b j h l =
      let two = twice_next n d l in
      masked_ext K F F gate (n - d) (2 ^ (n - suc d)) _ (picked K F gate m (2 ^ (n - suc d)) (K.xor (B (n - suc d)) (times K b Δ))) _ _ b (halved K n V d) (halved K n W d) j refl (λ i g. refl) refl
      (λ i g. halved_ext K n V W h d (omega arith) i (omega arith))

  module _ (F G : L → ℕ → L) (gate m n : ℕ) (Δ : L) (B V : ℕ → L) (f : G ≡ F) (hV : (i : ℕ) → i < 2 ^ n → V i ≡ hot K F gate Δ B n i) where
    given_of : (d : ℕ) → d < n → (b : Bool) (j : ℕ) → given K G gate m n Δ B V d b j ≡ given K F gate m n Δ B (hot K F gate Δ B n) d b j
    given_of d l b j = ap (λ H. given K H gate m n Δ B V d b j) f ∙ given_ext F gate m n Δ B V (hot K F gate Δ B n) d b j hV l

    pub mask_of : (d : ℕ) → d < n → (j : ℕ) → mask_row K G gate m n Δ B V d j ≡ mask_row K F gate m n Δ B (hot K F gate Δ B n) d j
    mask_of d l j = ap₂ K.xor (given_of d l false j) (given_of d l true j)

    pub made_with : (s j : ℕ) (p q : ℕ → ℕ) (a r : L) → ((i : ℕ) → i < 2 ^ n → p i ≡ q i) → a ≡ K.xor (times K (bit j s) Δ) (chosen K j (2 ^ n) p V)
        → r ≡ K.xor a (sum K n (λ d. given K G gate m n Δ B V d false j))
        → r ≡ K.xor (K.xor (sum K n (λ d. given K F gate m n Δ B (hot K F gate Δ B n) d false j)) (times K (bit j s) Δ)) (chosen K j (2 ^ n) q (hot K F gate Δ B n))
    made_with s j p q a r hf ea er =
        er ∙ ap₂ K.xor (ea ∙ ap (K.xor (times K (bit j s) Δ)) (chosen_ext K j (2 ^ n) p q V (hot K F gate Δ B n) hf hV)) (sum_ext K n _ _ (λ d l. given_of d l false j))
        ∙ turned_round (times K (bit j s) Δ) _ _
      where
        turned_round : (x y z : L) → K.xor (K.xor x y) z ≡ K.xor (K.xor z x) y
        turned_round x y z = simp group

  pub turned_of : (F G : L → ℕ → L) (gate m n s i α β x : ℕ) (Δ : L) (B : ℕ → L) (row : ℕ → ℕ) (nums : List ℕ) → G ≡ F → α ≡ β → Numbered K G gate m n Δ B nums
      → x ≡ bit_xor (row (bit_xor i α)) (bit_xor s (mixed n (λ d. get_or nums (2 ^ (n - d) + i % 2 ^ (n - d)) 0))) → x ≡ turned K F gate m n s Δ B row β i
  turned_of F G gate m n s i α β x Δ B row nums f ea h ex =
      ex ∙ ap (bit_xor (row (bit_xor i α))) (random_of K G gate m n s i Δ B nums h) ∙ (λ y. bit_xor (row (bit_xor i (ea y))) (random K (f y) gate m n s Δ B i))
