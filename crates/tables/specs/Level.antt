-- What the loops of the table gate keep of memory. Assumes nothing.
use Rattle.std.specs.Prelude.{◌≡◌, ℕ, suc, ◌+◌, ◌-◌, ◌*◌, ◌/◌, ◌%◌, ◌^◌, ◌<◌, ◌≤◌, Bool, List, ◌==◌, slice_index}
use Rattle.labels.specs.Kind.{Kind, times}
use Rattle.labels.specs.Numbers.{number, digit}
use Rattle.labels.specs.Lists.{places}
use Rattle.tables.specs.Table.{based, sum, picked}
use Rattle.tables.specs.Material.{stream}

module _ {L : Type 0} (K : Kind L) where
  -- the labels of colour 0 of the wires with these zero labels
  abbrev pub bases : L → List L → ℕ → L
  bases Δ zeros k = based K Δ (places K zeros k)

  -- the first n places of v are f
  abbrev pub Holds : ℕ → (ℕ → L) → List L → Type 0
  Holds n f v = (i : ℕ) → i < n → places K v i ≡ f i

  -- the ⊕ of f a to f (b - 1), for a ≤ b
  abbrev pub between : ℕ → ℕ → (ℕ → L) → L
  between a b f = K.xor (sum K a f) (sum K b f)

  -- the ⊕ of V[i] over the i below w whose number has the value k from bit j on, of c values
  abbrev pub bucket : ℕ → ℕ → ℕ → (ℕ → ℕ) → (ℕ → L) → ℕ → L
  bucket j c w p V k = sum K w (λ i. times K (k == p i / 2 ^ j % c) (V i))

  -- the labels V are sorted for wire j: by its bit and those after it of its four, and in the later sixteens by four bits each
  pub record Sorted (j w : ℕ) (p : ℕ → ℕ) (V : ℕ → L) (v : List L) : Type 0 where
    pub here : j < 16 → (k : ℕ) → k < 2 ^ (4 - j % 4) → places K v (16 * (j / 4) + k) ≡ bucket j (2 ^ (4 - j % 4)) w p V k
    pub later : (g k : ℕ) → j / 4 < g → g < 4 → k < 16 → places K v (16 * g + k) ≡ bucket (4 * g) 16 w p V k

  -- v is V of w places with those from a to b - 1 grown by c, and all else as it was
  pub record Grew (w a b : ℕ) (V c : ℕ → L) (v : List L) : Type 0 where
    pub lower : (k : ℕ) → a ≤ k → k < b → places K v k ≡ K.xor (c k) (V k)
    pub upper : (k : ℕ) → a ≤ k → k < b → places K v (w + k) ≡ c k
    pub before : (k : ℕ) → k < a → places K v k ≡ V k
    pub midst : (k : ℕ) → b ≤ k → k < w + a → places K v k ≡ V k

  -- the garbler's numbers h(b,i) of the levels up to n: those of level p + 1 and b from the place 2^(p+1) + b × 2^p on
  abbrev pub Numbered : (L → ℕ → L) → ℕ → ℕ → ℕ → L → (ℕ → L) → List ℕ → Type 0
  Numbered F g m n Δ B nums =
      (p : ℕ) → p < n → (b : Bool) (i : ℕ) → i < 2 ^ p → slice_index nums (2 ^ suc p + (digit b * 2 ^ p + i)) ≡ picked K F g m (2 ^ p) (K.xor (B p) (times K b Δ)) i

-- the first `at` bytes are those of the w rows f of m bits, and `bits` is the number of the next `count` bits
pub record Packing (w m : ℕ) (f : ℕ → ℕ) (at count bits : ℕ) (bytes : List ℕ) : Type 0 where
  pub written : (b : ℕ) → b < at → slice_index bytes b ≡ number 8 (λ k. stream w m f (8 * b + k))
  pub held : bits ≡ number count (λ k. stream w m f (8 * at + k))
