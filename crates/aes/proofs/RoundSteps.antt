-- The steps of a round on columns. Assumes nothing.
use Rattle.std.proofs.Common.{◌≡◌, ℕ, suc, ◌+◌, ◌*◌, List, [], ◌∷◌, sym, ap, ◌∙◌, arith}
use lib.Bits.{bit_xor, xor_assoc, xor_comm, xor_zero_l, xor_zero_r}
use Rattle.aes.specs.SBox.{s_box}
use Rattle.aes.specs.Bytes.{byte, bytes4, xors}
use Rattle.aes.specs.Columns.{columns}
use Rattle.aes.specs.Rounds.{add_round_key, full_round, last_round, mix_columns, mixed_column, mixed, sum4, shift_rows, shifted_column, cell, sub_bytes}
use Rattle.aes.specs.KeyExpansion.{round_key}
use Rattle.aes.specs.Cipher.{rounds}
use Rattle.aes.specs.Shares.{share, top_share, alone}
use Rattle.aes.proofs.Words.{by_columns, bytes4_xor}

pub key_added : (a b c d i j k l : ℕ) → add_round_key (columns a b c d) (columns i j k l) ≡ columns (bit_xor a i) (bit_xor b j) (bit_xor c k) (bit_xor d l)
unfolding columns bytes4 xors add_round_key
key_added a b c d i j k l =
    sym (by_columns (bit_xor a i) (bit_xor b j) (bit_xor c k) (bit_xor d l)
    (bytes4_xor a i) (bytes4_xor b j) (bytes4_xor c k) (bytes4_xor d l))

-- the code adds the last row's share first
last_first : (a b c d : ℕ) → bit_xor (bit_xor (bit_xor d a) b) c ≡ bit_xor (bit_xor (bit_xor a b) c) d
last_first a b c d = rw (xor_assoc d a b, xor_assoc d (bit_xor a b) c) (xor_comm d (bit_xor (bit_xor a b) c))

-- the four shares make the mixed column
pub mixed_word : (a b c d p q r s : ℕ) → bytes4 a ≡ share 0 p → bytes4 b ≡ share 1 q → bytes4 c ≡ share 2 r → bytes4 d ≡ share 3 s
    → bytes4 (bit_xor (bit_xor (bit_xor d a) b) c) ≡ mixed p q r s
unfolding share top_share mixed sum4 xors
mixed_word a b c d p q r s h i j k = rw (last_first a b c d) (simp (bytes4_xor, h, i, j, k))

-- and the round key before all
key_first : (a b c d k : ℕ) → bit_xor (bit_xor (bit_xor (bit_xor k d) a) b) c ≡ bit_xor (bit_xor (bit_xor (bit_xor d a) b) c) k
key_first a b c d k =
    rw (xor_assoc k d a, xor_assoc k (bit_xor d a) b, xor_assoc k (bit_xor (bit_xor d a) b) c) (xor_comm k (bit_xor (bit_xor (bit_xor d a) b) c))

-- with the round key
pub mixed_word_and_key : (a b c d k p q r s : ℕ) → bytes4 a ≡ share 0 p → bytes4 b ≡ share 1 q → bytes4 c ≡ share 2 r → bytes4 d ≡ share 3 s
    → bytes4 (bit_xor (bit_xor (bit_xor (bit_xor k d) a) b) c) ≡ xors (mixed p q r s) (bytes4 k)
mixed_word_and_key a b c d k p q r s h i j l =
    ap bytes4 (key_first a b c d k)
    ∙ bytes4_xor (bit_xor (bit_xor (bit_xor d a) b) c) k
    ∙ ap (λ (l : List ℕ). xors l (bytes4 k)) (mixed_word a b c d p q r s h i j l)

-- the four bytes in their rows, with the round key
pub placed_word_and_key : (a b c d k p q r s : ℕ) → bytes4 a ≡ alone 0 p → bytes4 b ≡ alone 1 q → bytes4 c ≡ alone 2 r → bytes4 d ≡ alone 3 s
    → bytes4 (bit_xor (bit_xor (bit_xor (bit_xor d a) b) c) k) ≡ xors (p ∷ q ∷ r ∷ s ∷ []) (bytes4 k)
unfolding alone xors
placed_word_and_key a b c d k p q r s h i j l = simp (bytes4_xor, h, i, j, l, xor_zero_l, xor_zero_r)

-- a full round, column by column
pub full_round_columns : (a b c d i j k l p q r s : ℕ)
    → bytes4 p ≡ xors (mixed (s_box (byte 0 a)) (s_box (byte 1 b)) (s_box (byte 2 c)) (s_box (byte 3 d))) (bytes4 i)
    → bytes4 q ≡ xors (mixed (s_box (byte 0 b)) (s_box (byte 1 c)) (s_box (byte 2 d)) (s_box (byte 3 a))) (bytes4 j)
    → bytes4 r ≡ xors (mixed (s_box (byte 0 c)) (s_box (byte 1 d)) (s_box (byte 2 a)) (s_box (byte 3 b))) (bytes4 k)
    → bytes4 s ≡ xors (mixed (s_box (byte 0 d)) (s_box (byte 1 a)) (s_box (byte 2 b)) (s_box (byte 3 c))) (bytes4 l)
    → columns p q r s ≡ full_round (columns a b c d) (columns i j k l)
unfolding columns bytes4 xors add_round_key full_round mix_columns mixed_column mixed shift_rows shifted_column cell sub_bytes
full_round_columns a b c d i j k l p q r s e f g h = by_columns p q r s e f g h

-- the last round, column by column
pub last_round_columns : (a b c d i j k l p q r s : ℕ)
    → bytes4 p ≡ xors (s_box (byte 0 a) ∷ s_box (byte 1 b) ∷ s_box (byte 2 c) ∷ s_box (byte 3 d) ∷ []) (bytes4 i)
    → bytes4 q ≡ xors (s_box (byte 0 b) ∷ s_box (byte 1 c) ∷ s_box (byte 2 d) ∷ s_box (byte 3 a) ∷ []) (bytes4 j)
    → bytes4 r ≡ xors (s_box (byte 0 c) ∷ s_box (byte 1 d) ∷ s_box (byte 2 a) ∷ s_box (byte 3 b) ∷ []) (bytes4 k)
    → bytes4 s ≡ xors (s_box (byte 0 d) ∷ s_box (byte 1 a) ∷ s_box (byte 2 b) ∷ s_box (byte 3 c) ∷ []) (bytes4 l)
    → columns p q r s ≡ last_round (columns a b c d) (columns i j k l)
unfolding columns bytes4 xors add_round_key last_round shift_rows shifted_column cell sub_bytes
last_round_columns a b c d i j k l p q r s e f g h = by_columns p q r s e f g h

-- one round more, and three
one_more : (ws : List (List ℕ)) (s : List ℕ) (n m : ℕ) → m ≡ suc n → rounds ws s m ≡ full_round (rounds ws s n) (round_key ws m)
unfolding rounds
one_more ws s n m e = ap (λ (k : ℕ). rounds ws s k) e ∙ ap (λ (k : ℕ). full_round (rounds ws s n) (round_key ws k)) (sym e)

pub three_more : (ws : List (List ℕ)) (s : List ℕ) (r : ℕ)
    → rounds ws s (3 * (r + 1)) ≡ full_round (full_round (full_round (rounds ws s (3 * r)) (round_key ws (3 * r + 1))) (round_key ws (3 * r + 2))) (round_key ws (3 * r + 3))
three_more ws s r =
    let e : 3 * (r + 1) ≡ 3 * r + 3 = omega arith in
    let first = one_more ws s (3 * r) (3 * r + 1) (omega arith) in
    let second = one_more ws s (3 * r + 1) (3 * r + 2) (omega arith) in
    let third = one_more ws s (3 * r + 2) (3 * r + 3) (omega arith) in
    ap (λ (k : ℕ). rounds ws s k) e
    ∙ third
    ∙ ap (λ (x : List ℕ). full_round x (round_key ws (3 * r + 3))) (second ∙ ap (λ (x : List ℕ). full_round x (round_key ws (3 * r + 2))) first)
