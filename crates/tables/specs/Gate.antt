-- The table gate in bytes: what the garbler's step writes, what the evaluator's step makes of it, and that they agree. Assumes nothing.
use Rattle.std.specs.Prelude.{◌≡◌, ℕ, ◌+◌, ◌-◌, ◌*◌, ◌^◌, ◌<◌, ◌≤◌, Bool, true, List, length}
use Rattle.labels.specs.Kind.{Kind, times}
use Rattle.hashes.specs.Draws.{draw}
use Rattle.labels.specs.Numbers.{bit, number}
use Rattle.labels.specs.Words.{word_at}
use Rattle.tables.specs.Table.{based, colours, hot, hot_row, mask_row, turned, made, found}
use Rattle.labels.specs.Lists.{listed, places}
use Rattle.tables.specs.Material.{written, one_hot_rows, mask_rows, table_rows}

module _ {L : Type 0} (K : Kind L) (F : L → ℕ → L) (g n m : ℕ) where
  -- s: the m lowest bits of draw 2048 + g
  abbrev pub drawn : L → ℕ
  drawn seed = K.low m (draw F seed (2048 + g))

  -- the material's bytes, from s, Δ, the zero labels A and the table's rows
  abbrev pub material : ℕ → L → (ℕ → L) → (ℕ → ℕ) → List ℕ
  material s Δ A row =
      let B : ℕ → L = λ k. based K Δ (A k) in
      written K n m (hot_row K F g Δ B) (mask_row K F g m n Δ B (hot K F g Δ B n)) (turned K F g m n s Δ B row (colours K n A))

  -- the new wires' zero labels
  abbrev pub zero_labels : ℕ → L → (ℕ → L) → (ℕ → ℕ) → List L
  zero_labels s Δ A row = listed m (made K F g m n s Δ A row)

  -- the evaluator's labels of the new wires, from the material's bytes and its labels E
  abbrev pub evaluated : List ℕ → (ℕ → L) → List L
  evaluated bytes E = listed m (found K F g m n (one_hot_rows K bytes) (mask_rows K n m bytes) (table_rows K n m bytes) E)

  -- the labels of the new wires' bits: bit j of the row that the operands' bits a choose
  abbrev pub labels_of_row : ℕ → L → (ℕ → L) → (ℕ → ℕ) → (ℕ → Bool) → List L
  labels_of_row s Δ A row a = listed m (λ j. K.xor (made K F g m n s Δ A row j) (times K (bit j (row (number n a))) Δ))

  -- the labels that came out are those of the row's bits, whenever the material is the garbler's for some zero labels A and E are labels of the bits a
  abbrev pub Meets : List ℕ → (ℕ → L) → List L → Type 0
  Meets bytes E new =
      (s : ℕ) (Δ : L) (A : ℕ → L) (row : ℕ → ℕ) (a : ℕ → Bool) → K.colour Δ ≡ true
      → ((k : ℕ) → k < n → E k ≡ K.xor (A k) (times K (a k) Δ))
      → bytes ≡ material s Δ A row
      → new ≡ labels_of_row s Δ A row a

  -- written material reads back as the garbler's rows and the bits of f'
  pub record ReadsBack (s : ℕ) (Δ : L) (A : ℕ → L) (row : ℕ → ℕ) : Type 0 where
    pub hots : (k : ℕ) → 1 ≤ k → k < n → one_hot_rows K (material s Δ A row) k ≡ hot_row K F g Δ (λ i. based K Δ (A i)) k
    pub masks : (d : ℕ) → d < n → (j : ℕ) → j < m → mask_rows K n m (material s Δ A row) d j ≡ mask_row K F g m n Δ (λ i. based K Δ (A i)) (hot K F g Δ (λ i. based K Δ (A i)) n) d j
    pub table : (i : ℕ) → i < 2 ^ n → (j : ℕ) → j < m → bit j (table_rows K n m (material s Δ A row) i) ≡ bit j (turned K F g m n s Δ (λ k. based K Δ (A k)) row (colours K n A) i)

-- the material and the zero labels, as the garbler's step has them from the seed, the operands' zero labels and the circuit's row bytes
module _ {L : Type 0} (K : Kind L) (F : L → ℕ → L) (g : ℕ) (seed Δ : L) (zeros : List L) (rows : List ℕ) (m : ℕ) where
  abbrev pub material_for : List ℕ
  material_for = material K F g (length zeros) m (drawn K F g (length zeros) m seed) Δ (places K zeros) (word_at rows)

  abbrev pub zeros_for : List L
  zeros_for = zero_labels K F g (length zeros) m (drawn K F g (length zeros) m seed) Δ (places K zeros) (word_at rows)

-- whoever holds the labels of n bits gets the labels of the bits of their row
abbrev pub Sound : {L : Type 0} → Kind L → Type 0
Sound {L} K =
    (F : L → ℕ → L) (g n m s : ℕ) (Δ : L) (A : ℕ → L) (row : ℕ → ℕ) (a : ℕ → Bool) → 1 ≤ n → K.colour Δ ≡ true
    → evaluated K F g n m (material K F g n m s Δ A row) (λ k. K.xor (A k) (times K (a k) Δ)) ≡ labels_of_row K F g n m s Δ A row a

abbrev pub Readable : {L : Type 0} → Kind L → Type 0
Readable {L} K = (F : L → ℕ → L) (g n m s : ℕ) (Δ : L) (A : ℕ → L) (row : ℕ → ℕ) → 1 ≤ n → ReadsBack K F g n m s Δ A row

-- hash calls of the garbler's step, its draw with them, and of the evaluator's
abbrev pub garbler_calls : ℕ → ℕ → ℕ
garbler_calls n m = 3 * 2 ^ n - 3 + 2 * (n * m)

abbrev pub evaluator_calls : ℕ → ℕ → ℕ
evaluator_calls n m = 2 ^ (n + 1) - n - 2 + n * m
