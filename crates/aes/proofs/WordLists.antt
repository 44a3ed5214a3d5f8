-- Words that are the expansion of a key: one equation of lists, or one for each word. Assumes nothing.
use Rattle.std.proofs.Common.{◌≡◌, ℕ, ◌+◌, ◌*◌, ◌<◌, ◌≤◌, List, [], length, map, get_or, sym, refl, ap, ◌∙◌, arith, ext_get_or}
use Rattle.std.proofs.lemmas.List.{get_or-map, length-map}
use Rattle.aes.specs.Bytes.{bytes4}
use Rattle.aes.specs.Columns.{columns}
use Rattle.aes.specs.KeyExpansion.{key_expansion, four_words, round_key}
use Rattle.aes.proofs.Words.{by_columns}
use Rattle.aes.proofs.Expansion.{IsBegun, expansion_length}

-- the word i
pub at_word : (ws : List ℕ) (vs : List (List ℕ)) → map bytes4 ws ≡ vs → (i : ℕ) → i < length ws → bytes4 (get_or ws i 0) ≡ get_or vs i []
at_word ws vs e i h = sym (get_or-map bytes4 ws i 0 [] h) ∙ ap (λ (l : List (List ℕ)). get_or l i []) e

-- and from each word
pub from_words : (ws : List ℕ) (vs : List (List ℕ)) → length ws ≡ length vs → ((i : ℕ) → i < length ws → bytes4 (get_or ws i 0) ≡ get_or vs i []) → map bytes4 ws ≡ vs
from_words ws vs n e =
    let long : length (map bytes4 ws) ≡ length ws = length-map ws bytes4 in
    ext_get_or [] (map bytes4 ws) vs (long ∙ n) (λ i h. let k : i < length ws = omega arith in get_or-map bytes4 ws i 0 [] k ∙ e i k)

-- a round key, of the four words from place 4 r on
pub four_columns : (ws : List ℕ) (r : ℕ) → length ws ≡ 44 → r < 11
    → columns (get_or ws (4 * r) 0) (get_or ws (4 * r + 1) 0) (get_or ws (4 * r + 2) 0) (get_or ws (4 * r + 3) 0) ≡ round_key (map bytes4 ws) r
unfolding four_words round_key
four_columns ws r n h =
    let w : (i : ℕ) → i < 44 → bytes4 (get_or ws i 0) ≡ get_or (map bytes4 ws) i [] = λ i k. at_word ws _ refl i (omega arith) in
    by_columns _ _ _ _ (w (4 * r) (omega arith)) (w (4 * r + 1) (omega arith)) (w (4 * r + 2) (omega arith)) (w (4 * r + 3) (omega arith))

-- the expansion, from all of its words
pub all_words : (ws key : List ℕ) (n : ℕ) → IsBegun key ws n → 44 ≤ n → map bytes4 ws ≡ key_expansion key
all_words ws key n p h =
    let l : length ws ≡ 44 = p.long in
    from_words ws _ (l ∙ sym (expansion_length key)) (λ i k. p.begun i (omega arith))
