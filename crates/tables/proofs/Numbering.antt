-- Bits of numbers, and numbers of bits. Assumes nothing.
use Rattle.std.proofs.Common.{◌≡◌, ℕ, zero, suc, ◌+◌, ◌-◌, ◌*◌, ◌/◌, ◌%◌, ◌^◌, ◌<◌, ◌≤◌, Bool, true, false, cond, eqb, sym, refl, ap, ◌∙◌, ap₂, inl, inr, add-zero, add-suc, add_comm, add_assoc, mul_assoc, add-mul, mod-eq_of_lt, arith, pow_mono, pow-add}
use native.Mathlib.Nat.{zero-div}
use lib.Bits.{bit_xor, xor_shr, xor_block}
use lib.Pow.{high, low, field, mod-mod-pow, mod-pow-add}
use Rattle.std.proofs.lemmas.Bool.{cases_lt}
use Rattle.labels.specs.Kind.{differs}
use Rattle.labels.specs.Words.{odd, odd_xor}
use Rattle.labels.specs.Numbers.{bit, number}
use Rattle.labels.proofs.Numbers.{number_below}
use Rattle.tables.specs.Mixed.{mixed}

pub bit_xor_lem : (j a b : ℕ) → bit j (bit_xor a b) ≡ differs (bit j a) (bit j b)
bit_xor_lem j a b = ap odd (xor_shr a b j) ∙ odd_xor (a / 2 ^ j) (b / 2 ^ j)

pub bit_zero : (j : ℕ) → bit j 0 ≡ false
bit_zero j = ap odd (zero-div (2 ^ j))

pub mod_longer : (a p q : ℕ) → p ≤ q → a % 2 ^ q % 2 ^ p ≡ a % 2 ^ p
mod_longer a p q h =
    let e : q ≡ (q - p) + p = omega arith in
    ap (λ k. a % 2 ^ k % 2 ^ p) e ∙ mod-mod-pow a (q - p) p

-- the lowest p bits of a longer number
pub number_low : (n p : ℕ) (b : ℕ → Bool) → p ≤ n → number n b % 2 ^ p ≡ number p b
number_low zero zero b h = refl
number_low zero (suc p) b h = absurd (omega arith)
number_low (suc n) p b h =
    elim (cases_lt n p) [
      | inl g ↦ (let e : suc n ≡ p = omega arith in ap (λ k. number (suc n) b % 2 ^ k) (sym e) ∙ mod-eq_of_lt (number_below (suc n) b) ∙ ap (λ k. number k b) e)
      | inr g ↦ sym (mod_longer (number (suc n) b) p n g) ∙ ap (λ a. a % 2 ^ p) (low (cond (b n) 1 0) n (number_below n b)) ∙ number_low n p b g
    ]

eqb_cond : (v : Bool) → eqb (cond v 1 0) 1 ≡ v
eqb_cond true = refl
eqb_cond false = refl

pub number_bit : (n p : ℕ) (b : ℕ → Bool) → p < n → bit p (number n b) ≡ b p
number_bit n p b h =
    let e : 1 + p ≡ suc p = omega arith in
    ap (λ a. eqb a 1)
    (sym (field (number n b) 1 p) ∙ ap (λ k. number n b % 2 ^ k / 2 ^ p) e ∙ ap (λ a. a / 2 ^ p) (number_low n (suc p) b h) ∙ high (cond (b p) 1 0) p (number_below p b))
    ∙ eqb_cond (b p)

-- a bit as a number
odd_digit : (y : ℕ) → y < 2 → cond (eqb y 1) 1 0 ≡ y
odd_digit zero l = refl
odd_digit (suc zero) l = refl
odd_digit (suc (suc y)) l = absurd (omega arith)

-- the number of a number's lowest n bits
pub number_of : (n a : ℕ) → number n (λ k. bit k a) ≡ a % 2 ^ n
number_of zero a = let e : a % 1 ≡ 0 = omega arith in sym e
number_of (suc n) a =
    let e : 1 + n ≡ suc n = omega arith in
    ap₂ (λ x y. x * 2 ^ n + y) (odd_digit (a / 2 ^ n % 2) (omega arith)) (number_of n a) ∙ sym (mod-pow-add a 1 n) ∙ ap (λ k. a % 2 ^ k) e

-- bits in two parts
pub number_split : (a b : ℕ) (s : ℕ → Bool) → number (a + b) s ≡ number b (λ k. s (a + k)) * 2 ^ a + number a s
number_split a zero s = ap (λ k. number k s) (add-zero a) ∙ (let e : number a s ≡ 0 * 2 ^ a + number a s = omega arith in e)
number_split a (suc b) s =
    let d : ℕ = cond (s (a + b)) 1 0 in
    let c : ℕ = number b (λ k. s (a + k)) in
    let r : ℕ = number a s in
    let e : d * 2 ^ (a + b) ≡ d * 2 ^ b * 2 ^ a = ap (λ n. d * n) (ap (λ k. 2 ^ k) (add_comm a b) ∙ pow-add 2 b a) ∙ sym (mul_assoc d (2 ^ b) (2 ^ a)) in
    ap (λ k. number k s) (add-suc a b)
    ∙ ap (λ x. d * 2 ^ (a + b) + x) (number_split a b s)
    ∙ ap (λ x. x + (c * 2 ^ a + r)) e
    ∙ sym (add_assoc (d * 2 ^ b * 2 ^ a) (c * 2 ^ a) r)
    ∙ ap (λ x. x + r) (sym (add-mul (d * 2 ^ b) c (2 ^ a)))

-- m bits from bit r on
pub number_field : (n r m : ℕ) (s : ℕ → Bool) → r + m ≤ n → number n s / 2 ^ r % 2 ^ m ≡ number m (λ k. s (r + k))
number_field n r m s l =
    let e : n ≡ r + (n - r) = omega arith in
    ap (λ k. number k s / 2 ^ r % 2 ^ m) e
    ∙ ap (λ x. x / 2 ^ r % 2 ^ m) (number_split r (n - r) s)
    ∙ ap (λ x. x % 2 ^ m) (high (number (n - r) (λ k. s (r + k))) r (number_below r s))
    ∙ number_low (n - r) m (λ k. s (r + k)) (omega arith)

xor_one : (u v : Bool) → bit_xor (cond u 1 0) (cond v 1 0) ≡ cond (differs u v) 1 0
xor_one true true = refl
xor_one true false = refl
xor_one false true = refl
xor_one false false = refl

pub number_xor : (n : ℕ) (b c : ℕ → Bool) → bit_xor (number n b) (number n c) ≡ number n (λ k. differs (b k) (c k))
number_xor zero b c = refl
number_xor (suc n) b c =
    xor_block n (cond (b n) 1 0) (cond (c n) 1 0) (number n b) (number n c) (number_below n b) (number_below n c)
    ∙ ap₂ (λ u v. u * 2 ^ n + v) (xor_one (b n) (c n)) (number_xor n b c)

pub mixed_ext : (n : ℕ) (f g : ℕ → ℕ) → ((k : ℕ) → k < n → f k ≡ g k) → mixed n f ≡ mixed n g
mixed_ext zero f g h = refl
mixed_ext (suc n) f g h = ap₂ bit_xor (mixed_ext n f g (λ k l. h k (omega arith))) (h n (omega arith))

-- what n ≤ 8 gives
pub fits_eight : (n : ℕ) → n ≤ 8 → 2 ^ n ≤ 256
fits_eight n l = pow_mono {i = n} {j = 8} l
