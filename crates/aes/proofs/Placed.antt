-- The four tables of the last round, by computing every entry. Assumes nothing.
use Rattle.std.proofs.Common.{◌≡◌, ℕ, zero, suc, ◌<◌, List, [], ◌∷◌, get_or, refl, arith}
use Rattle.aes.specs.Field.{xtime, times_low, times, squares, inverse}
use Rattle.aes.specs.SBox.{bit, affine_bit, affine_low, affine, s_box}
use Rattle.aes.specs.Bytes.{byte, bytes4}
use Rattle.aes.specs.Shares.{alone}
use Rattle.aes.proofs.Entries.{table, word, word_at}

-- the table of row r
abbrev pub row_table : ℕ → List ℕ
row_table r = table (λ (x : ℕ). word (alone r (s_box x))) 256

abbrev pub tables : List (List ℕ)
tables = row_table 0 ∷ row_table 1 ∷ row_table 2 ∷ row_table 3 ∷ []

pub entry : (r x : ℕ) → r < 4 → x < 256 → bytes4 (get_or (get_or tables r []) x 0) ≡ alone r (s_box x)
unfolding xtime times_low times squares inverse bit affine_bit affine_low affine s_box byte bytes4 alone
entry zero x h k = word_at (λ (x : ℕ). alone 0 (s_box x)) 256 x refl k
entry (suc zero) x h k = word_at (λ (x : ℕ). alone 1 (s_box x)) 256 x refl k
entry (suc (suc zero)) x h k = word_at (λ (x : ℕ). alone 2 (s_box x)) 256 x refl k
entry (suc (suc (suc zero))) x h k = word_at (λ (x : ℕ). alone 3 (s_box x)) 256 x refl k
entry (suc (suc (suc (suc r)))) x h k = absurd (omega arith)
