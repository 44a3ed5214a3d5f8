-- The hash value after blocks of two parts, one after the other. Assumes nothing.
use Rattle.std.proofs.Common.{◌≡◌, ℕ, zero, suc, ◌+◌, ◌*◌, ◌/◌, ◌%◌, ◌<◌, ◌≤◌, List, [], ◌++◌, length, take, drop, get_or, sym, refl, ap, ◌∙◌, ap₂, add-one, add-zero, arith}
use Rattle.std.proofs.lemmas.List.{length-append, length-drop, drop-append-le, take-append-le, drop-drop, drop_at, append_assoc}
use Rattle.std.specs.Int.{w32, from_be_bytes}
use Rattle.std.specs.Simd.{first_chunks}
use Rattle.std.proofs.lemmas.Simd.{get_or-chunk}
use Rattle.sha256.specs.Words.{word_at}
use Rattle.sha256.specs.declared.state.State.{State}
use Rattle.sha256.specs.Constants.{initial}
use Rattle.sha256.specs.Compression.{compressed}
use Rattle.sha256.specs.Padding.{padding, padded}
use Rattle.sha256.specs.Digest.{block, hashed, output, digest}

pub hashed_none : (s : State) (bytes : List ℕ) → hashed s bytes 0 ≡ s
hashed_none s bytes = refl

hashed_suc : (s : State) (bytes : List ℕ) (i : ℕ) → hashed s bytes (suc i) ≡ compressed (hashed s bytes i) (block bytes i)
hashed_suc s bytes i = refl

pub hashed_more : (s : State) (bytes : List ℕ) (i : ℕ) → hashed s bytes (i + 1) ≡ compressed (hashed s bytes i) (block bytes i)
hashed_more s bytes i = ap (λ (n : ℕ). hashed s bytes n) (add-one i) ∙ hashed_suc s bytes i

-- block i, as a piece of the whole
pub block_at : (n k i : ℕ) (xs d : List ℕ) → i < k → get_or (first_chunks n k xs) i d ≡ take n (drop (n * i) xs)
block_at n zero i xs d h = absurd (omega arith)
block_at n (suc k) zero xs d h = let e : 0 ≡ n * 0 = omega arith in ap (λ (j : ℕ). take n (drop j xs)) e
block_at n (suc k) (suc i) xs d h =
    let e : n + n * i ≡ n * suc i = omega arith in
    block_at n k i (drop n xs) d (omega arith) ∙ ap (λ (l : List ℕ). take n l) (drop-drop (n * i) n xs ∙ ap (λ (j : ℕ). drop j xs) e)

-- the word of four bytes read as word t
pub word_read : (bytes : List ℕ) (t : ℕ) → from_be_bytes w32 (take 4 (drop (4 * t) bytes)) ≡ word_at bytes t
word_read bytes t =
    let at : (j : ℕ) → j < 4 → get_or (take 4 (drop (4 * t) bytes)) j 0 ≡ get_or bytes (4 * t + j) 0 = λ j h. get_or-chunk (4 * t) 4 bytes j 0 h in
    let a = at 0 (omega arith) ∙ ap (λ (i : ℕ). get_or bytes i 0) (add-zero (4 * t)) in
    let b = at 1 (omega arith) in
    let c = at 2 (omega arith) in
    let d = at 3 (omega arith) in
    simp (a, b, c, d)

-- one block more
pub block_absorbed : (s x : State) (bytes : List ℕ) (blocks : List (List ℕ)) (i : ℕ) → blocks ≡ first_chunks 64 (length bytes / 64) bytes → i < length bytes / 64
    → x ≡ hashed s bytes i → compressed x (get_or blocks i []) ≡ hashed s bytes (i + 1)
block_absorbed s x bytes blocks i e h p =
    let part = ap (λ (l : List (List ℕ)). get_or l i []) e ∙ block_at 64 (length bytes / 64) i bytes [] h in
    ap₂ compressed p part ∙ sym (hashed_more s bytes i)

block_front : (xs ys : List ℕ) (i : ℕ) → 64 * suc i ≤ length xs → block (xs ++ ys) i ≡ block xs i
block_front xs ys i h =
    let d : 64 * i ≤ length xs = omega arith in
    let t : 64 ≤ length (drop (64 * i) xs) = simp length-drop (omega arith) in
    ap (λ (l : List ℕ). take 64 l) (drop-append-le (64 * i) xs ys d) ∙ take-append-le 64 (drop (64 * i) xs) ys t

block_back : (xs ys : List ℕ) (i j : ℕ) → length xs ≡ 64 * i → block (xs ++ ys) (i + j) ≡ block ys j
block_back xs ys i j h =
    let e : 64 * (i + j) ≡ 64 * i + 64 * j = omega arith in
    ap (λ (n : ℕ). take 64 (drop n (xs ++ ys))) e
    ∙ ap (λ (l : List ℕ). take 64 l) (sym (drop-drop (64 * j) (64 * i) (xs ++ ys)) ∙ ap (λ (l : List ℕ). drop (64 * j) l) (drop_at xs ys (64 * i) h))

hashed_front : (s : State) (xs ys : List ℕ) (i : ℕ) → 64 * i ≤ length xs → hashed s (xs ++ ys) i ≡ hashed s xs i
hashed_front s xs ys zero h = hashed_none s (xs ++ ys) ∙ sym (hashed_none s xs)
hashed_front s xs ys (suc i) h =
    let d : 64 * i ≤ length xs = omega arith in
    hashed_suc s (xs ++ ys) i ∙ ap₂ compressed (hashed_front s xs ys i d) (block_front xs ys i h) ∙ sym (hashed_suc s xs i)

hashed_back : (s : State) (xs ys : List ℕ) (i j : ℕ) → length xs ≡ 64 * i → hashed s (xs ++ ys) (i + j) ≡ hashed (hashed s xs i) ys j
hashed_back s xs ys i zero h =
    let e : i + 0 ≡ i = omega arith in
    let le : 64 * i ≤ length xs = omega arith in
    ap (λ (n : ℕ). hashed s (xs ++ ys) n) e ∙ hashed_front s xs ys i le ∙ sym (hashed_none (hashed s xs i) ys)
hashed_back s xs ys i (suc j) h =
    let e : i + suc j ≡ suc (i + j) = omega arith in
    ap (λ (n : ℕ). hashed s (xs ++ ys) n) e
    ∙ hashed_suc s (xs ++ ys) (i + j)
    ∙ ap₂ compressed (hashed_back s xs ys i j h) (block_back xs ys i j h)
    ∙ sym (hashed_suc (hashed s xs i) ys j)

-- the whole blocks of a message first, then the rest with the padding
pub digest_split : (body rest tail : List ℕ) → length body % 64 ≡ 0 → tail ≡ rest ++ padding (length body + length rest)
    → output (hashed (hashed initial body (length body / 64)) tail (length tail / 64)) ≡ digest (body ++ rest)
unfolding digest padded
digest_split body rest tail h q =
    let i = length body / 64 in
    let n : length body ≡ 64 * i = omega arith in
    let p : padding (length (body ++ rest)) ≡ padding (length body + length rest) = ap padding (length-append body rest) in
    let e : padded (body ++ rest) ≡ body ++ tail = ap (λ (l : List ℕ). (body ++ rest) ++ l) p ∙ append_assoc body rest _ ∙ ap (λ (l : List ℕ). body ++ l) (sym q) in
    let c : length (body ++ tail) / 64 ≡ i + length tail / 64 = simp length-append (omega arith) in
    let f = ap (λ (l : List ℕ). hashed initial l (length l / 64)) e in
    let g = ap (λ (k : ℕ). hashed initial (body ++ tail) k) c in
    ap output (sym (f ∙ g ∙ hashed_back initial body tail i (length tail / 64) n))
