-- The bytes of words, and of sums of words. Assumes nothing.
use Rattle.std.proofs.Common.{◌≡◌, ℕ, ◌*◌, ◌/◌, ◌%◌, ◌^◌, ◌<◌, List, [], ◌∷◌, ◌++◌, length, get_or, sym, refl, ap, ◌∙◌, append_assoc, arith}
use lib.Bits.{bit_xor, xor_shr, xor_mod}
use Rattle.std.proofs.lemmas.Nat.{le_bytes_4}
use Rattle.std.specs.Int.{w32, to_le_bytes, from_le_bytes}
use Rattle.aes.specs.Bytes.{byte, bytes4, xors}
use Rattle.aes.specs.Columns.{columns}
use Rattle.std.proofs.lemmas.List.FromFn.{fill_by_all}

pub byte_xor : (i a b : ℕ) → byte i (bit_xor a b) ≡ bit_xor (byte i a) (byte i b)
unfolding byte
byte_xor i a b = ap (λ (n : ℕ). n % 256) (xor_shr a b (8 * i)) ∙ xor_mod (a / 2 ^ (8 * i)) (b / 2 ^ (8 * i)) 8

pub bytes4_xor : (a b : ℕ) → bytes4 (bit_xor a b) ≡ xors (bytes4 a) (bytes4 b)
unfolding bytes4 xors
bytes4_xor a b = rw (byte_xor 0 a b, byte_xor 1 a b, byte_xor 2 a b, byte_xor 3 a b)

pub by_columns : (a b c d : ℕ) {A B C D : List ℕ} → bytes4 a ≡ A → bytes4 b ≡ B → bytes4 c ≡ C → bytes4 d ≡ D → columns a b c d ≡ A ++ (B ++ (C ++ D))
unfolding columns
by_columns a b c d p q r s = cc

-- std's bytes of a word, lowest first
pub low_first : (n : ℕ) → to_le_bytes w32 n ≡ bytes4 n
unfolding bytes4 byte
low_first n =
    let e : n % 256 ≡ n / 1 % 256 = omega arith in
    ap (λ (b : ℕ). b ∷ n / 256 % 256 ∷ n / 65536 % 256 ∷ n / 16777216 % 256 ∷ []) e

-- a column read from its four bytes has them
pub read_word : (bs : List ℕ) (n : ℕ) → length bs ≡ 4 → ((i : ℕ) → get_or bs i 0 < 256) → n ≡ from_le_bytes w32 bs → bytes4 n ≡ bs
read_word bs n l h e = sym (low_first n) ∙ le_bytes_4 bs n l h e

-- four columns are two halves of eight bytes
pub columns_halves : (a b c d : ℕ) → columns a b c d ≡ (bytes4 a ++ bytes4 b) ++ (bytes4 c ++ bytes4 d)
unfolding columns
columns_halves a b c d = sym (append_assoc (bytes4 a) (bytes4 b) (bytes4 c ++ bytes4 d))

-- sixteen bytes are four columns of four
pub sixteen : (bs : List ℕ) (a b c d : ℕ) → length bs ≡ 16
    → bytes4 a ≡ get_or bs 0 0 ∷ get_or bs 1 0 ∷ get_or bs 2 0 ∷ get_or bs 3 0 ∷ []
    → bytes4 b ≡ get_or bs 4 0 ∷ get_or bs 5 0 ∷ get_or bs 6 0 ∷ get_or bs 7 0 ∷ []
    → bytes4 c ≡ get_or bs 8 0 ∷ get_or bs 9 0 ∷ get_or bs 10 0 ∷ get_or bs 11 0 ∷ []
    → bytes4 d ≡ get_or bs 12 0 ∷ get_or bs 13 0 ∷ get_or bs 14 0 ∷ get_or bs 15 0 ∷ []
    → columns a b c d ≡ bs
sixteen bs a b c d n p q r s =
    by_columns a b c d p q r s ∙ sym (fill_by_all (λ (k : ℕ). get_or bs k 0) bs 16 0 n (λ k h. refl))
