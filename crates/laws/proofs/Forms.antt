-- The three arms of a gate's form. Assumes nothing.
use Rattle.std.proofs.Common.{◌≡◌, ℕ, ◌<◌, ◌≤◌, true, false, eqb, leb, inl, inr, arith}
use Rattle.std.proofs.lemmas.Bool.{cases_Bool}
use Rattle.std.proofs.lemmas.Bool.Decides.{nat_tests}
use Rattle.circuit.specs.Forms.{known, fan_in, fan_out, reads, makes, by_form}

-- what holds in each arm
pub at_each : {X : Type 0} (P : X → Type 0) (form : ℕ) (x a t : X) → (form ≡ 0 → P x) → (form ≡ 1 → P a) → (1 < form → P t) → P (by_form form x a t)
at_each P form x a t hx ha ht =
    elim (cases_Bool (eqb form 0)) [
      | inl z ↦ rw z (hx (grind (arith, nat_tests)))
      | inr z ↦ elim (cases_Bool (eqb form 1)) [
        | inl o ↦ rw (z, o) (ha (grind (arith, nat_tests)))
        | inr o ↦ rw (z, o) (ht (grind (arith, nat_tests)))
      ]
    ]

-- what holds of two in each arm
pub at_both : {X Y : Type 0} (R : X → Y → Type 0) (form : ℕ) (x a t : X) (y b s : Y) → (form ≡ 0 → R x y) → (form ≡ 1 → R a b) → (1 < form → R t s) → R (by_form form x a t) (by_form form y b s)
at_both R form x a t y b s hx ha ht =
    elim (cases_Bool (eqb form 0)) [
      | inl z ↦ rw z (hx (grind (arith, nat_tests)))
      | inr z ↦ elim (cases_Bool (eqb form 1)) [
        | inl o ↦ rw (z, o) (ha (grind (arith, nat_tests)))
        | inr o ↦ rw (z, o) (ht (grind (arith, nat_tests)))
      ]
    ]

-- arms that are equal
pub same_arms : {X : Type 0} (form : ℕ) (x a t y b s : X) → (form ≤ 1 → x ≡ y) → (form ≤ 1 → a ≡ b) → (1 < form → t ≡ s) → by_form form x a t ≡ by_form form y b s
same_arms form x a t y b s hx ha ht = at_both (λ p q. p ≡ q) form x a t y b s (λ e. hx (omega arith)) (λ e. ha (omega arith)) ht

-- wires read and made
pub two_read : (form : ℕ) → form ≤ 1 → reads form ≡ 2
two_read form l = let e : leb form 1 ≡ true = grind (arith, nat_tests) in rw e

pub one_made : (form : ℕ) → form ≤ 1 → makes form ≡ 1
one_made form l = let e : leb form 1 ≡ true = grind (arith, nat_tests) in rw e

pub table_reads : (form : ℕ) → 1 < form → reads form ≡ fan_in form
table_reads form l = let e : leb form 1 ≡ false = grind (arith, nat_tests) in rw e

pub table_makes : (form : ℕ) → 1 < form → makes form ≡ fan_out form
table_makes form l = let e : leb form 1 ≡ false = grind (arith, nat_tests) in rw e

pub table_some : (form : ℕ) → 1 < form → known form ≡ true → 1 ≤ fan_in form
table_some form l e = grind (arith, nat_tests)
