-- The marks of the first inputs. Assumes nothing.
use Rattle.std.proofs.Common.{◌≡◌, ◌≢◌, ℕ, zero, suc, ◌<◌, ◌≤◌, Bool, true, false, List, length, replicate, sym, refl, ◌∙◌, subst, inl, inr, arith}
use Rattle.std.specs.Prelude.{slice_set}
use Rattle.std.proofs.lemmas.Bool.{cases_eq}
use Rattle.std.proofs.lemmas.List.{length-set, length-replicate, get_or-replicate, get_or-set_same, get_or-set_other}
use Rattle.parties.specs.Marks.{is_marked, all_marked}
use Rattle.parties.proofs.Marking.{marked_all}

-- the marks once the first n inputs are encoded or delivered
unfoldable pub marks_below : ℕ → List Bool
marks_below zero = replicate 256 false
marks_below (suc n) = slice_set (marks_below n) n true

pub marks_none : replicate 256 false ≡ marks_below 0
unfolding marks_below
marks_none = refl

pub marks_next : (n : ℕ) → slice_set (marks_below n) n true ≡ marks_below (suc n)
unfolding marks_below
marks_next n = refl

marks_long : (n : ℕ) → length (marks_below n) ≡ 256
unfolding marks_below
marks_long zero = length-replicate 256 false
marks_long (suc n) = length-set (marks_below n) n true ∙ marks_long n

-- an input from n on is not marked
pub unmarked : (n k : ℕ) → n ≤ k → k < 256 → is_marked (marks_below n) k ≡ false
unfolding marks_below
unmarked zero k h l = get_or-replicate 256 k false false l
unmarked (suc n) k h l = let ne : k ≢ n = omega arith in get_or-set_other (marks_below n) n k true false ne ∙ unmarked n k (omega arith) l

-- and each before is
pub is_below : (n k : ℕ) → n ≤ 256 → k < n → is_marked (marks_below n) k ≡ true
unfolding marks_below
is_below zero k m h = absurd (omega arith)
is_below (suc n) k m h =
    let long = marks_long n in
    elim (cases_eq k n) [
      | inl p ↦ subst (λ (i : ℕ). is_marked (slice_set (marks_below n) n true) i ≡ true) (sym p) (get_or-set_same (marks_below n) n true false (omega arith))
      | inr p ↦ get_or-set_other (marks_below n) n k true false p ∙ is_below n k (omega arith) (omega arith)
    ]

pub all_below_marked : (n : ℕ) → n ≤ 256 → all_marked (marks_below n) n ≡ true
all_below_marked n m = marked_all (marks_below n) n (λ k h. is_below n k m h)
