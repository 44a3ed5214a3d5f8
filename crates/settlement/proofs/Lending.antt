-- The first n of a memory, or all where there are fewer. Assumes nothing.
use Rattle.std.proofs.Common.{◌≡◌, ℕ, zero, suc, List, [], ◌∷◌, ◌++◌, length, take, drop, min, refl, ap, ◌∙◌, arith}
use Rattle.std.proofs.lemmas.List.{take-append-drop}

pub drop_min : {X : Type 0} (n : ℕ) (xs : List X) → drop (min n (length xs)) xs ≡ drop n xs
drop_min zero xs = let e : min 0 (length xs) ≡ 0 = omega arith in rw e refl
drop_min (suc n) [] = let e : min (suc n) 0 ≡ 0 = omega arith in rw e refl
drop_min (suc n) (x ∷ xs) = let e : min (suc n) (length (x ∷ xs)) ≡ suc (min n (length xs)) = omega arith in rw e (drop_min n xs)

-- a part that stayed
pub part_same : {X : Type 0} (n : ℕ) (xs part : List X) → part ≡ take n xs → part ++ drop n xs ≡ xs
part_same n xs part e = ap (λ (p : List _). p ++ drop n xs) e ∙ take-append-drop n xs
