-- The bytes of a word of 64 bits, by halves. Assumes nothing.
use Rattle.std.proofs.Common.{◌≡◌, ℕ, ◌+◌, ◌-◌, ◌*◌, ◌/◌, ◌%◌, ◌^◌, ◌<◌, ◌++◌, ap, ◌∙◌, arith}
use lib.Bits.{bit_and, bit_or, or_shifted, and_mask}
use Rattle.std.proofs.lemmas.Nat.{div-mul-add, mod-mul-add, field_of, shr-shr, mod-pow-add, pow_pos, mod_below}
use Rattle.aes.specs.Bytes.{byte, bytes4, bytes8}

low_byte : (y m : ℕ) → y % 2 ^ (m + 8) % 2 ^ 8 ≡ y % 2 ^ 8
low_byte y m =
    ap (λ (n : ℕ). n % 2 ^ 8) (mod-pow-add y m 8) ∙ mod-mul-add (y / 2 ^ 8 % 2 ^ m) (2 ^ 8) (y % 2 ^ 8) (mod_below y (2 ^ 8) (pow_pos 8))

-- the byte from bit j on of the lowest m + 8 + j bits
low_part : (x j m : ℕ) → (x % 2 ^ ((m + 8) + j)) / 2 ^ j % 2 ^ 8 ≡ x / 2 ^ j % 2 ^ 8
low_part x j m = ap (λ (n : ℕ). n % 2 ^ 8) (field_of x (m + 8) j) ∙ low_byte (x / 2 ^ j) m

high_part : (x j : ℕ) → x / 2 ^ 32 / 2 ^ j % 2 ^ 8 ≡ x / 2 ^ (32 + j) % 2 ^ 8
high_part x j = ap (λ (n : ℕ). n % 2 ^ 8) (shr-shr x 32 j)

pub halves : (x : ℕ) → bytes4 (x % 2 ^ 32) ++ bytes4 (x / 2 ^ 32) ≡ bytes8 x
unfolding byte bytes4 bytes8
halves x =
    rw (low_part x 0 24, low_part x 8 16, low_part x 16 8, low_part x 24 0, high_part x 0, high_part x 8, high_part x 16, high_part x 24)

pub masked : (x : ℕ) → bytes4 (bit_and x (2 ^ 32 - 1)) ++ bytes4 (x / 2 ^ 32) ≡ bytes8 x
masked x = rw (and_mask x 32) (halves x)

pub whole : (a b : ℕ) → a < 2 ^ 32 → b < 2 ^ 32 → bytes8 (bit_or (b * 2 ^ 32 % 2 ^ 64) a) ≡ bytes4 a ++ bytes4 b
whole a b ha hb =
    let e : b * 2 ^ 32 % 2 ^ 64 ≡ b * 2 ^ 32 = omega arith in
    let f : bit_or (b * 2 ^ 32 % 2 ^ 64) a ≡ b * 2 ^ 32 + a = rw e (or_shifted b 32 a ha) in
    let p = mod-mul-add b (2 ^ 32) a ha in
    let q = div-mul-add b (2 ^ 32) a ha in
    let h = halves (b * 2 ^ 32 + a) in
    cc
