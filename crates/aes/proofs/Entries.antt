-- The rule of each table, for all of its entries at once, and that the inverse is one. Assumes nothing.
use Rattle.std.proofs.Common.{◌≡◌, ℕ, ◌+◌, ◌*◌, ◌<◌, min, List, [], map, get_or, sym, refl, ap, ◌∙◌, zero-add, arith}
use Rattle.std.specs.List.{range_with_len}
use Rattle.std.proofs.lemmas.List.FromFn.{get_or-map-range_with_len}
use Rattle.aes.specs.Field.{xtime, times_low, times, squares, inverse, InverseLaw}
use Rattle.aes.specs.Bytes.{bytes4}

-- the table of f at the numbers below n
abbrev pub table : {X : Type 0} → (ℕ → X) → ℕ → List X
table f n = map f (range_with_len 0 n)

pub table_at : {X : Type 0} (f : ℕ → X) (n k : ℕ) (d : X) → k < n → get_or (table f n) k d ≡ f k
table_at f n k d h = get_or-map-range_with_len f 0 n k k d h (zero-add k)

-- tables that are the same have the same entries
pub same_at : {X : Type 0} (f g : ℕ → X) (n k : ℕ) (d : X) → table f n ≡ table g n → k < n → f k ≡ g k
same_at {X} f g n k d e h = sym (table_at f n k d h) ∙ ap (λ (l : List X). get_or l k d) e ∙ table_at g n k d h

-- the word that four bytes write
abbrev pub word : List ℕ → ℕ
word bs = get_or bs 0 0 + 256 * (get_or bs 1 0 + 256 * (get_or bs 2 0 + 256 * get_or bs 3 0))

-- a table of the words that f's bytes write, where each word has those bytes
pub word_at : (f : ℕ → List ℕ) (n x : ℕ) → table (λ (y : ℕ). bytes4 (word (f y))) n ≡ table f n → x < n → bytes4 (get_or (table (λ (y : ℕ). word (f y)) n) x 0) ≡ f x
word_at f n x e h = ap bytes4 (table_at (λ (y : ℕ). word (f y)) n x 0 h) ∙ same_at (λ (y : ℕ). bytes4 (word (f y))) f n x [] e h

-- b times its inverse is 1, and 0 at 0
all_invert : table (λ (b : ℕ). times b (inverse b)) 256 ≡ table (λ (b : ℕ). min b 1) 256
unfolding xtime times_low times squares inverse
all_invert = refl

pub inverse_law : InverseLaw
inverse_law b h k =
    let e : min b 1 ≡ 1 = omega arith in
    same_at (λ (y : ℕ). times y (inverse y)) (λ (y : ℕ). min y 1) 256 b 0 all_invert k ∙ e
