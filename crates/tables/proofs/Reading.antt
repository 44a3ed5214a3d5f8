-- A material's rows and table, written and read back. Assumes nothing.
use Rattle.std.proofs.Common.{◌≡◌, ℕ, zero, suc, ◌+◌, ◌-◌, ◌*◌, ◌/◌, ◌%◌, ◌^◌, ◌<◌, ◌≤◌, List, [], ◌++◌, length, take, drop, sym, ap, ◌∙◌, ap₂, inl, inr, mul_assoc, add-mul, arith, take-add}
use lib.Seq.{drop-append-add}
use Rattle.std.proofs.lemmas.Nat.{div_below, mod_below, div-add-mod'}
use Rattle.std.proofs.lemmas.List.{append-nil, append_assoc, length-append, take-append-drop, take_at, drop_at, take-take, drop-drop, drop-take}
use Rattle.std.proofs.lemmas.Bool.{cases_lt}
use Rattle.labels.specs.Kind.{Kind}
use Rattle.gates.specs.Bytes.{bytes_at}
use Rattle.material.specs.Size.{labels_of}
use Rattle.labels.specs.Lists.{each}
use Rattle.tables.specs.Material.{packed, row_bytes, written}
use Rattle.tables.proofs.Masks.{next_row, rows_within}

-- strings of equal length, one after another
module _ (w : ℕ) (f : ℕ → List ℕ) (long : (i : ℕ) → length (f i) ≡ w) where
  pub length_each : (n : ℕ) → length (each n f) ≡ n * w
  length_each zero = omega arith
  length_each (suc n) =
      let e : suc n * w ≡ n * w + w = (let q : suc n ≡ n + 1 = omega arith in ap (λ k. k * w) q) ∙ next_row n w in
      length-append (each n f) (f n) ∙ ap₂ ◌+◌ (length_each n) (long n) ∙ sym e

  pub each_part : (n k : ℕ) (rest : List ℕ) → k < n → bytes_at (k * w) w (each n f ++ rest) ≡ f k
  each_part zero k rest l = absurd (omega arith)
  each_part (suc n) k rest l =
      ap (bytes_at (k * w) w) (append_assoc (each n f) (f n) rest)
      ∙ elim (cases_lt k n) [
        | inl h ↦ each_part n k (f n ++ rest) h
        | inr h ↦ (let q : k ≡ n = omega arith in
            ap (λ i. bytes_at (i * w) w (each n f ++ (f n ++ rest))) q
            ∙ ap (take w) (drop_at (each n f) (f n ++ rest) (n * w) (length_each n)) ∙ take_at (f n) rest w (long n) ∙ ap f (sym q))
      ]

-- a part of what follows, and a part of a part
pub part_after : (a b w : ℕ) (xs ys : List ℕ) → length xs ≡ a → bytes_at (a + b) w (xs ++ ys) ≡ bytes_at b w ys
part_after a b w xs ys e = ap (λ k. bytes_at (k + b) w (xs ++ ys)) (sym e) ∙ ap (take w) (drop-append-add xs ys b)

pub part_part : (a b s w : ℕ) (xs : List ℕ) → b + w ≤ s → bytes_at (a + b) w xs ≡ bytes_at b w (bytes_at a s xs)
part_part a b s w xs l =
    ap (take w) (sym (drop-drop b a xs)) ∙ sym (drop-take b w (drop a xs)) ∙ ap (drop b) (sym (take-take (b + w) s (drop a xs) l)) ∙ drop-take b w (take s (drop a xs))

-- equal rows are equal fronts
pub rows_same : (w r : ℕ) (xs ys : List ℕ) → ((k : ℕ) → k < r → bytes_at (k * w) w xs ≡ bytes_at (k * w) w ys) → take (r * w) xs ≡ take (r * w) ys
rows_same w zero xs ys h = let e : 0 * w ≡ 0 = omega arith in ap (λ k. take k xs) e ∙ ap (λ k. take k ys) (sym e)
rows_same w (suc r) xs ys h =
    let e : suc r * w ≡ r * w + w = (let q : suc r ≡ r + 1 = omega arith in ap (λ k. k * w) q) ∙ next_row r w in
    ap (λ k. take k xs) e ∙ take-add (r * w) w xs ∙ ap₂ (λ a b. a ++ b) (rows_same w r xs ys (λ k l. h k (omega arith))) (h r (omega arith)) ∙ sym (take-add (r * w) w ys) ∙ ap (λ k. take k ys) (sym e)

module _ {L : Type 0} (K : Kind L) (n m : ℕ) (rows : ℕ → L) (masks : ℕ → ℕ → L) (f : ℕ → ℕ) where
  abbrev W : ℕ
  W = K.width

  abbrev hots : List ℕ
  hots = each (n - 1) (λ k. K.bytes (rows (suc k)))

  abbrev level : ℕ → List ℕ
  level d = each m (λ j. K.bytes (masks d j))

  abbrev all : List ℕ
  all = written K n m rows masks f

  length_hots : length hots ≡ (n - 1) * W
  length_hots = length_each W (λ k. K.bytes (rows (suc k))) (λ k. K.bytes_long (rows (suc k))) (n - 1)

  length_level : (d : ℕ) → length (level d) ≡ m * W
  length_level d = length_each W (λ j. K.bytes (masks d j)) (λ j. K.bytes_long (masks d j)) m

  length_levels : length (each n level) ≡ n * m * W
  length_levels = length_each (m * W) level length_level n ∙ sym (mul_assoc n m W)

  pub hots_back : (k : ℕ) → k < n - 1 → row_bytes K k all ≡ K.bytes (rows (suc k))
  hots_back k l = each_part W (λ k. K.bytes (rows (suc k))) (λ k. K.bytes_long (rows (suc k))) (n - 1) k (each n level ++ packed (2 ^ n) m f) l

  pub masks_back : (d : ℕ) → d < n → (j : ℕ) → j < m → row_bytes K (n - 1 + (d * m + j)) all ≡ K.bytes (masks d j)
  masks_back d l j h =
      let e : (n - 1 + (d * m + j)) * W ≡ (n - 1) * W + (d * (m * W) + j * W) =
      add-mul (n - 1) (d * m + j) W ∙ ap (λ k. (n - 1) * W + k) (add-mul (d * m) j W ∙ ap (λ k. k + j * W) (mul_assoc d m W)) in
      ap (λ a. bytes_at a W all) e
      ∙ part_after ((n - 1) * W) (d * (m * W) + j * W) W hots (each n level ++ packed (2 ^ n) m f) length_hots
      ∙ part_part (d * (m * W)) (j * W) (m * W) W (each n level ++ packed (2 ^ n) m f) (rows_within j m W h)
      ∙ ap (bytes_at (j * W) W) (each_part (m * W) level length_level n d (packed (2 ^ n) m f) l ∙ sym (append-nil (level d)))
      ∙ each_part W (λ j. K.bytes (masks d j)) (λ j. K.bytes_long (masks d j)) m j [] h

  pub table_back : drop (labels_of n m * W) all ≡ packed (2 ^ n) m f
  table_back =
      let e : labels_of n m * W ≡ (n - 1) * W + n * m * W = add-mul (n - 1) (n * m) W in
      let front = length_hots in
      ap (λ k. drop k all) e
      ∙ sym (drop-drop (n * m * W) ((n - 1) * W) all)
      ∙ ap (drop (n * m * W)) (drop_at hots (each n level ++ packed (2 ^ n) m f) ((n - 1) * W) length_hots)
      ∙ drop_at (each n level) (packed (2 ^ n) m f) (n * m * W) length_levels

  -- bytes with these rows and this table are the material
  pub written_by : (xs : List ℕ) → ((k : ℕ) → k < n - 1 → row_bytes K k xs ≡ K.bytes (rows (suc k)))
      → ((d : ℕ) → d < n → (j : ℕ) → j < m → row_bytes K (n - 1 + (d * m + j)) xs ≡ K.bytes (masks d j))
      → drop (labels_of n m * W) xs ≡ packed (2 ^ n) m f → xs ≡ all
  written_by xs hh hm ht =
      sym (take-append-drop (labels_of n m * W) xs)
      ∙ ap₂ (λ a b. a ++ b) (rows_same W (labels_of n m) xs all same) (ht ∙ sym table_back)
      ∙ take-append-drop (labels_of n m * W) all
    where
      same : (k : ℕ) → k < labels_of n m → row_bytes K k xs ≡ row_bytes K k all
      same k l =
          elim (cases_lt k (n - 1)) [
            | inl h ↦ hh k h ∙ sym (hots_back k h)
            | inr h ↦ beyond (k - (n - 1)) (omega arith) k (omega arith)
          ]
        where
          beyond : (e : ℕ) → e < n * m → (k : ℕ) → n - 1 + e ≡ k → row_bytes K k xs ≡ row_bytes K k all
          beyond e r k q =
              let pos : 0 < m = elim (cases_lt 0 m) [ inl p ↦ p | inr p ↦ (let z : m ≡ 0 = omega arith in let y : n * m ≡ n * 0 = ap (λ i. n * i) z in absurd (omega arith)) ] in
              let b = div_below e m n pos r in
              let c = mod_below e m pos in
              let s : k ≡ n - 1 + (e / m * m + e % m) = sym q ∙ ap (λ i. n - 1 + i) (sym (div-add-mod' e m)) in
              ap (λ i. row_bytes K i xs) s ∙ hm (e / m) b (e % m) c ∙ sym (masks_back (e / m) b (e % m) c) ∙ ap (λ i. row_bytes K i all) (sym s)
