-- Rows of bits packed into bytes, and lists made of a function of the place. Assumes nothing.
use Rattle.std.proofs.Common.{◌≡◌, ℕ, zero, suc, ◌+◌, ◌-◌, ◌*◌, ◌/◌, ◌%◌, ◌^◌, ◌<◌, ◌≤◌, Bool, false, cond, ltb, List, [], ◌∷◌, ◌++◌, length, get_or, take, set, sym, refl, ap, ◌∙◌, subst, ap₂, inl, inr, add-zero, add-suc, mul-zero, add-one, mod-eq_of_lt, arith, pow_mono}
use lib.Arith.{digits_lt, digits_div, digits_mod}
use lib.Pow.{high}
use Rattle.std.proofs.lemmas.Nat.{div_below}
use Rattle.std.proofs.lemmas.List.{take_more, take_all, length_push, get_or_push, get_or_append_left, get_or-set_same, get_or-set_other}
use Rattle.std.proofs.lemmas.Bool.{cases_eq, cases_lt, lt-ltb, le-ltb}
use Rattle.labels.specs.Numbers.{bit, number}
use Rattle.material.specs.Size.{in_bytes}
use Rattle.labels.specs.Lists.{listed}
use Rattle.tables.specs.Material.{stream, packed, bit_at, unpacked}
use Rattle.tables.specs.Level.{Packing}
use Rattle.tables.proofs.Numbering.{number_bit, number_low, number_of, number_split, number_field}
use Rattle.labels.proofs.Numbers.{number_below, number_same}

-- lists of a function
module _ {X : Type 0} (f : ℕ → X) where
  pub length_listed : (n : ℕ) → length (listed n f) ≡ n
  length_listed zero = refl
  length_listed (suc n) = length_push (listed n f) (f n) ∙ ap (λ k. k + 1) (length_listed n) ∙ add-one n

  pub get_or_listed : (n i : ℕ) (d : X) → i < n → get_or (listed n f) i d ≡ f i
  get_or_listed zero i d l = absurd (omega arith)
  get_or_listed (suc n) i d l =
      let e = length_listed n in
      elim (cases_lt i n) [
        | inl h ↦ get_or_append_left (listed n f) (f n ∷ []) d i (omega arith) ∙ get_or_listed n i d h
        | inr h ↦ (let q : i ≡ n = omega arith in get_or_push (listed n f) (f n) d i (e ∙ sym q) ∙ ap f (sym q))
      ]

  take_listed : (xs : List X) (d : X) (n : ℕ) → n ≤ length xs → ((k : ℕ) → k < n → get_or xs k d ≡ f k) → take n xs ≡ listed n f
  take_listed xs d zero l h = refl
  take_listed xs d (suc n) l h =
      ap (λ k. take k xs) (sym (add-one n)) ∙ take_more xs n d l ∙ ap₂ (λ a b. a ++ (b ∷ [])) (take_listed xs d n (omega arith) (λ k g. h k (omega arith))) (h n (omega arith))

  pub listed_all : (xs : List X) (d : X) (n : ℕ) → length xs ≡ n → ((k : ℕ) → k < n → get_or xs k d ≡ f k) → xs ≡ listed n f
  listed_all xs d n e h = sym (take_all n xs (omega arith)) ∙ take_listed xs d n (omega arith) h

pub listed_ext : {X : Type 0} (n : ℕ) (f h : ℕ → X) → ((k : ℕ) → k < n → f k ≡ h k) → listed n f ≡ listed n h
listed_ext zero f h e = refl
listed_ext (suc n) f h e = ap₂ (λ a b. a ++ (b ∷ [])) (listed_ext n f h (λ k l. e k (omega arith))) (e n (omega arith))

number_past : (c k : ℕ) (b : ℕ → Bool) → ((i : ℕ) → c ≤ i → i < c + k → b i ≡ false) → number (c + k) b ≡ number c b
number_past c zero b h = ap (λ k. number k b) (add-zero c)
number_past c (suc k) b h =
    ap (λ n. number n b) (add-suc c k) ∙ ap (λ v. cond v 1 0 * 2 ^ (c + k) + number (c + k) b) (h (c + k) (omega arith) (omega arith))
    ∙ (let e : 0 * 2 ^ (c + k) + number (c + k) b ≡ number (c + k) b = omega arith in e) ∙ number_past c k b (λ i l g. h i l (omega arith))

module _ (w m : ℕ) (f : ℕ → ℕ) where
  pub in_rows : (i j : ℕ) → i < w → j < m → i * m + j < w * m
  in_rows i j l h = digits_lt {q = i} {m = w} {r = j} {c = m} l h

  pub stream_at : (i j : ℕ) → i < w → j < m → stream w m f (i * m + j) ≡ bit j (f i)
  stream_at i j l h =
      ap (λ v. cond v (bit ((i * m + j) % m) (f ((i * m + j) / m))) false) (lt-ltb (i * m + j) (w * m) (in_rows i j l h))
      ∙ ap₂ (λ r q. bit r (f q)) (digits_mod i {m = m} {r = j} h) (digits_div i {m = m} {r = j} h)

  pub packing_none : (bytes : List ℕ) → Packing w m f 0 0 0 bytes
  packing_none bytes = record { written = λ b l. absurd (omega arith); held = refl }

  -- one more row is held
  pub packing_row : (at count bits i a c x : ℕ) (bytes : List ℕ) → Packing w m f at count bits bytes → 8 * at + count ≡ i * m → i < w
      → a ≡ at → c ≡ count + m → x ≡ f i % 2 ^ m * 2 ^ count + bits → Packing w m f a c x bytes
  packing_row at count bits i a c x bytes h p l ea ec ex =
      let s : ℕ → Bool = λ k. stream w m f (8 * at + k) in
      let row : f i % 2 ^ m ≡ number m (λ j. s (count + j)) =
      sym (number_of m (f i)) ∙ number_same m _ _ (λ j g. let q : i * m + j ≡ 8 * at + (count + j) = omega arith in sym (stream_at i j l g) ∙ ap (stream w m f) q) in
      subst (λ b. Packing w m f b c x bytes) (sym ea) (record {
        written = h.written;
        held = ex ∙ ap₂ (λ a b. a * 2 ^ count + b) row h.held ∙ sym (number_split count m s) ∙ ap (λ k. number k s) (sym ec);
      })

  -- a whole byte is moved
  pub packing_byte : (at count bits : ℕ) (bytes : List ℕ) → Packing w m f at count bits bytes → at < length bytes → 8 ≤ count
      → Packing w m f (at + 1) (count - 8) (bits / 2 ^ 8) (set bytes at (bits % 2 ^ 8))
  packing_byte at count bits bytes h l g =
      let s : ℕ → Bool = λ k. stream w m f (8 * at + k) in
      let y : ℕ = bits % 2 ^ 8 in
      let low : y ≡ number 8 s = ap (λ x. x % 2 ^ 8) h.held ∙ number_low count 8 s g in
      let n : count ≡ 8 + (count - 8) = omega arith in
      record {
        written = λ b k. elim (cases_eq b at) [
          | inl e ↦ ap (λ i. get_or (set bytes at y) i 0) e ∙ get_or-set_same bytes at y 0 l ∙ low ∙ ap (λ i. number 8 (λ k. stream w m f (8 * i + k))) (sym e)
          | inr e ↦ get_or-set_other bytes at b y 0 e ∙ h.written b (omega arith)
        ];
        held =
            ap (λ x. x / 2 ^ 8) (h.held ∙ ap (λ k. number k s) n ∙ number_split 8 (count - 8) s)
            ∙ high (number (count - 8) (λ k. s (8 + k))) 8 (number_below 8 s)
            ∙ number_same (count - 8) _ _ (λ k _. let q : 8 * at + (8 + k) ≡ 8 * (at + 1) + k = omega arith in ap (stream w m f) q);
      }

  -- the held bits are few
  pub packing_few : (at count bits : ℕ) (bytes : List ℕ) → Packing w m f at count bits bytes → count < 8 → bits < 256
  packing_few at count bits bytes h l =
      let e = h.held in
      let b = number_below count (λ k. stream w m f (8 * at + k)) in
      let q = pow_mono {i = count} {j = 8} (omega arith) in
      omega arith

  -- all rows are held, and nothing is left
  pub packing_all : (at count bits : ℕ) (bytes : List ℕ) → Packing w m f at count bits bytes → 8 * at ≡ w * m → length bytes ≡ in_bytes (w * m) → bytes ≡ packed w m f
  packing_all at count bits bytes h e len =
      listed_all (λ b. number 8 (λ k. stream w m f (8 * b + k))) bytes 0 (in_bytes (w * m)) len (λ b l. h.written b (omega arith))

  -- all rows are held, and a part of a byte is left
  pub packing_rest : (at count bits : ℕ) (bytes : List ℕ) → Packing w m f at count bits bytes → 8 * at + count ≡ w * m → 0 < count → count < 8 → length bytes ≡ in_bytes (w * m)
      → set bytes at bits ≡ packed w m f
  packing_rest at count bits bytes h e g l len =
      let s : ℕ → Bool = λ k. stream w m f (8 * at + k) in
      let n : count + (8 - count) ≡ 8 = omega arith in
      let whole : bits ≡ number 8 s =
      h.held
      ∙ sym (number_past count (8 - count) s (λ i r _. ap (λ v. cond v (bit ((8 * at + i) % m) (f ((8 * at + i) / m))) false) (le-ltb (8 * at + i) (w * m) (omega arith))))
      ∙ ap (λ k. number k s) n in
      let size = Rattle.std.proofs.lemmas.List.length-set bytes at bits in
      listed_all (λ b. number 8 (λ k. stream w m f (8 * b + k))) (set bytes at bits) 0 (in_bytes (w * m)) (size ∙ len)
      (λ b k. elim (cases_eq b at) [
        | inl q ↦ ap (λ i. get_or (set bytes at bits) i 0) q ∙ get_or-set_same bytes at bits 0 (omega arith) ∙ whole ∙ ap (λ i. number 8 (λ k. stream w m f (8 * i + k))) (sym q)
        | inr q ↦ get_or-set_other bytes at b bits 0 q ∙ h.written b (omega arith)
      ])

  -- packed bits read back
  pub bit_at_packed : (p : ℕ) → p < w * m → bit_at (packed w m f) p ≡ stream w m f p
  bit_at_packed p l =
      let q : 8 * (p / 8) + p % 8 ≡ p = omega arith in
      ap (bit (p % 8)) (get_or_listed (λ b. number 8 (λ k. stream w m f (8 * b + k))) (in_bytes (w * m)) (p / 8) 0 (omega arith))
      ∙ number_bit 8 (p % 8) (λ k. stream w m f (8 * (p / 8) + k)) (omega arith) ∙ ap (stream w m f) q

  pub unpacked_bit : (i j : ℕ) → i < w → j < m → bit j (unpacked m (packed w m f) i) ≡ bit j (f i)
  unpacked_bit i j l h =
      number_bit m j (λ k. bit_at (packed w m f) (i * m + k)) h ∙ bit_at_packed (i * m + j) (in_rows i j l h) ∙ stream_at i j l h

-- other numbers that are the same at each row
pub packed_ext : (v w m : ℕ) (f h : ℕ → ℕ) → v ≡ w → ((i : ℕ) → i < w → f i ≡ h i) → packed v m f ≡ packed w m h
packed_ext v w m f h e q =
    ap (λ n. packed n m f) e ∙ listed_ext (in_bytes (w * m)) _ _ (λ b l. number_same 8 _ _ (λ k g. same (8 * b + k)))
  where
    same : (p : ℕ) → stream w m f p ≡ stream w m h p
    same p =
        elim (cases_lt p (w * m)) [
          | inl l ↦ (let pos = factor m w p l in ap (λ a. cond (ltb p (w * m)) (bit (p % m) a) false) (q (p / m) (div_below p m w pos l)))
          | inr l ↦ (let z = le-ltb p (w * m) l in ap (λ v. cond v (bit (p % m) (f (p / m))) false) z ∙ ap (λ v. cond v (bit (p % m) (h (p / m))) false) (sym z))
        ]
      where
        factor : (m w p : ℕ) → p < w * m → 0 < m
        factor zero w p l = let y : w * 0 ≡ 0 = mul-zero w in absurd (omega arith)
        factor (suc m) w p l = omega arith

-- the bits of a byte
byte_bits : (bytes : List ℕ) (q a : ℕ) → a ≡ get_or bytes q 0 → a < 256 → a ≡ number 8 (λ k. bit_at bytes (8 * q + k))
byte_bits bytes q a e l =
    sym (mod-eq_of_lt l) ∙ sym (number_of 8 a)
    ∙ number_same 8 _ _ (λ k g. let r : k ≡ (8 * q + k) % 8 = omega arith in let d : q ≡ (8 * q + k) / 8 = omega arith in ap (bit k) (e ∙ ap (λ i. get_or bytes i 0) d) ∙ ap (λ i. bit i (get_or bytes ((8 * q + k) / 8) 0)) r)

-- a field of three digits of a bits
three_parts : (a x y z n r m : ℕ) (s : ℕ → Bool) → x ≡ number a s → y ≡ number a (λ k. s (a + k)) → z ≡ number a (λ k. s (a + (a + k))) → n ≡ (z * 2 ^ a + y) * 2 ^ a + x → r + m ≤ a + (a + a)
    → n / 2 ^ r % 2 ^ m ≡ number m (λ k. s (r + k))
three_parts a x y z n r m s ex ey ez en l =
    let e : n ≡ number (a + (a + a)) s =
    en ∙ ap₂ (λ u v. u * 2 ^ a + v) (ap₂ (λ u v. u * 2 ^ a + v) ez ey ∙ sym (number_split a a (λ k. s (a + k)))) ex ∙ sym (number_split a (a + a) s) in
    ap (λ k. k / 2 ^ r % 2 ^ m) e ∙ number_field (a + (a + a)) r m s l

-- m bits from bit p on, in three bytes
pub window_at : (bytes : List ℕ) (p m a b c n : ℕ) → a ≡ get_or bytes (p / 8) 0 → a < 256 → b ≡ get_or bytes (p / 8 + 1) 0 → b < 256 → c ≡ get_or bytes (p / 8 + 2) 0 → c < 256 → m ≤ 16
    → n ≡ a + b * 256 + c * 65536 → n / 2 ^ (p % 8) % 2 ^ m ≡ number m (λ j. bit_at bytes (p + j))
window_at bytes p m a b c n ea la eb lb ec lc lm en =
    let q : ℕ = p / 8 in
    let s : ℕ → Bool = λ k. bit_at bytes (8 * q + k) in
    let y : b ≡ number 8 (λ k. s (8 + k)) =
    byte_bits bytes (q + 1) b eb lb ∙ number_same 8 _ _ (λ k _. let i : 8 * (q + 1) + k ≡ 8 * q + (8 + k) = omega arith in ap (bit_at bytes) i) in
    let z : c ≡ number 8 (λ k. s (8 + (8 + k))) =
    byte_bits bytes (q + 2) c ec lc ∙ number_same 8 _ _ (λ k _. let i : 8 * (q + 2) + k ≡ 8 * q + (8 + (8 + k)) = omega arith in ap (bit_at bytes) i) in
    three_parts 8 a b c n (p % 8) m s (byte_bits bytes q a ea la) y z (omega arith) (omega arith)
    ∙ number_same m _ _ (λ j _. let i : 8 * q + (p % 8 + j) ≡ p + j = omega arith in ap (bit_at bytes) i)
