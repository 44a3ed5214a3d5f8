-- What each word of the key expansion is. Assumes nothing.
use Rattle.std.proofs.Common.{◌≡◌, ◌≢◌, ℕ, zero, suc, ◌+◌, ◌-◌, ◌<◌, ◌≤◌, List, [], ◌∷◌, length, get_or, set, sym, refl, ◌∙◌, inl, inr, eq-or-lt_of_le, arith, get_or-set_other, get_or-set_same, below_more, length-set}
use lib.Bits.{bit_xor}
use Rattle.std.proofs.lemmas.List.{length-append, get_or_append_left, get_or_push}
use Rattle.aes.specs.Bytes.{bytes4, xors}
use Rattle.aes.specs.Columns.{columns}
use Rattle.aes.proofs.Words.{bytes4_xor}
use Rattle.aes.specs.KeyExpansion.{term, next_word, schedule, key_expansion}

module _ (key : List ℕ) where
  long : (n : ℕ) → length (schedule key n) ≡ 4 + n
  unfolding schedule
  long zero = refl
  long (suc n) = simp length-append (omega (arith, long n))

  -- a word stays as it is
  kept : (n i : ℕ) → i < 4 + n → get_or (schedule key (suc n)) i [] ≡ get_or (schedule key n) i []
  unfolding schedule
  kept n i h = get_or_append_left (schedule key n) (next_word (schedule key n) (4 + n) ∷ []) [] i (omega (arith, long n))

  made : (n : ℕ) → get_or (schedule key (suc n)) (4 + n) [] ≡ next_word (schedule key n) (4 + n)
  unfolding schedule
  made n = get_or_push (schedule key n) (next_word (schedule key n) (4 + n)) [] (4 + n) (long n)

  -- each word but the first four is the next after those before it
  rule : (n i : ℕ) → 4 ≤ i → i < 4 + n → get_or (schedule key n) i [] ≡ next_word (schedule key n) i
  unfolding next_word
  rule zero i h k = absurd (omega arith)
  rule (suc n) i h k =
      let back : i - 4 < 4 + n = omega arith in
      let last : i - 1 < 4 + n = omega arith in
      let low : i ≤ 4 + n = omega arith in
      let b = kept n (i - 4) back in
      let l = kept n (i - 1) last in
      elim (eq-or-lt_of_le low) [
        | inl e ↦ rw (b, l) (rw e (made n))
        | inr m ↦ let o = kept n i m in let r = rule n i h m in rw (b, l) (o ∙ r)
      ]

pub expansion_length : (key : List ℕ) → length (key_expansion key) ≡ 44
unfolding key_expansion
expansion_length key = long key 40

pub word_rule : (key : List ℕ) (i : ℕ) → 4 ≤ i → i < 44 → get_or (key_expansion key) i [] ≡ xors (get_or (key_expansion key) (i - 4) []) (term i (get_or (key_expansion key) (i - 1) []))
unfolding key_expansion next_word
word_rule key i h k = rule key 40 i h k

-- the first four words are the key's columns
first_words : (key : List ℕ) → (n : ℕ) → (i : ℕ) → i < 4 → get_or (schedule key n) i [] ≡ get_or (schedule key 0) i []
first_words key zero i h = refl
first_words key (suc n) i h = let k : i < 4 + n = omega arith in kept key n i k ∙ first_words key n i h

first_four : (a b c d : ℕ) (rest : List ℕ) (k : ℕ) → k < 4 → bytes4 (get_or (a ∷ b ∷ c ∷ d ∷ rest) k 0) ≡ get_or (key_expansion (columns a b c d)) k []
unfolding schedule key_expansion columns bytes4
first_four a b c d rest zero h = sym (first_words (columns a b c d) 40 0 h)
first_four a b c d rest (suc zero) h = sym (first_words (columns a b c d) 40 1 h)
first_four a b c d rest (suc (suc zero)) h = sym (first_words (columns a b c d) 40 2 h)
first_four a b c d rest (suc (suc (suc zero))) h = sym (first_words (columns a b c d) 40 3 h)
first_four a b c d rest (suc (suc (suc (suc k)))) h = absurd (omega arith)

-- of 44 words the first n are those of the key's expansion
pub record IsBegun (key ws : List ℕ) (n : ℕ) : Type 0 where
  pub long : length ws ≡ 44
  pub begun : (k : ℕ) → k < n → bytes4 (get_or ws k 0) ≡ get_or (key_expansion key) k []

pub start : (a b c d : ℕ) (rest : List ℕ) → length rest ≡ 40 → IsBegun (columns a b c d) (a ∷ b ∷ c ∷ d ∷ rest) 4
start a b c d rest h = record { long = omega arith; begun = first_four a b c d rest }

-- word i, made of those before it
pub word_added : (key ws : List ℕ) (i v : ℕ) → IsBegun key ws i → 4 ≤ i → i < 44 → bytes4 v ≡ term i (bytes4 (get_or ws (i - 1) 0))
    → IsBegun key (set ws i (bit_xor (get_or ws (i - 4) 0) v)) (i + 1)
word_added key ws i v p from below e =
    let n : length ws ≡ 44 = p.long in
    let lt : i < length ws = omega arith in
    let here : bytes4 (bit_xor (get_or ws (i - 4) 0) v) ≡ get_or (key_expansion key) i [] =
    let back = p.begun (i - 4) (omega arith) in
    let last = p.begun (i - 1) (omega arith) in
    let r = word_rule key i from below in
    let s = bytes4_xor (get_or ws (i - 4) 0) v in
    cc in
    record {
      long = simp length-set n;
      begun =
          below_more _ _
          (λ k h. let ne : k ≢ i = omega arith in rw get_or-set_other (p.begun k h))
          (rw get_or-set_same here);
    }
