-- A bitwise or is below 2^m where all that it is made of are. Assumes nothing.
use Rattle.std.proofs.Common.{◌≡◌, ℕ, zero, suc, ◌^◌, true, false, ltb, refl, sym, ◌∙◌, inl, inr, arith}
use lib.Bits.{or_lt}
use Rattle.std.proofs.lemmas.Nat.{pow_pos, le_or_l, le_or_r}
use Rattle.std.proofs.lemmas.Bool.{cases_lt, lt-ltb, le-ltb}
use Rattle.circuit.specs.Words.{all_below, united}

pub united_below : (f : ℕ → ℕ) (n m : ℕ) → ltb (united f n) (2 ^ m) ≡ all_below f n (2 ^ m)
united_below f zero m = lt-ltb 0 (2 ^ m) (pow_pos m)
united_below f (suc n) m =
    let rest = united_below f n m in
    let l = le_or_l (united f n) (f n) in
    let r = le_or_r (united f n) (f n) in
    elim (cases_lt (f n) (2 ^ m)) [
      | inl h ↦ (
          let here : ltb (f n) (2 ^ m) ≡ true = lt-ltb (f n) (2 ^ m) h in
          elim (cases_lt (united f n) (2 ^ m)) [
            | inl g ↦ (
                let all : all_below f n (2 ^ m) ≡ true = sym rest ∙ lt-ltb (united f n) (2 ^ m) g in
                let both : ltb (united f (suc n)) (2 ^ m) ≡ true = lt-ltb (united f (suc n)) (2 ^ m) (or_lt m (united f n) (f n) g h) in
                rw (here, all, both) refl)
            | inr g ↦ (
                let all : all_below f n (2 ^ m) ≡ false = sym rest ∙ le-ltb (united f n) (2 ^ m) g in
                let none : ltb (united f (suc n)) (2 ^ m) ≡ false = le-ltb (united f (suc n)) (2 ^ m) (omega (arith, l, g)) in
                rw (here, all, none) refl)
          ])
      | inr h ↦ (
          let here : ltb (f n) (2 ^ m) ≡ false = le-ltb (f n) (2 ^ m) h in
          let none : ltb (united f (suc n)) (2 ^ m) ≡ false = le-ltb (united f (suc n)) (2 ^ m) (omega (arith, r, h)) in
          rw (here, none) refl)
    ]
