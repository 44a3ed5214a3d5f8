-- Rows of a material: what one write leaves. Assumes nothing.
use Rattle.std.proofs.Common.{◌≡◌, ℕ, ◌+◌, ◌-◌, ◌*◌, ◌≤◌, List, ◌++◌, length, take, drop, sym, refl, ap, ◌∙◌, inl, inr, arith}
use borrow.Rule.Slice.PartMut.{put_mid}
use Rattle.std.proofs.lemmas.List.{append-nil, drop_all, length-take-le, take_at, drop_at, take-take, drop-drop, drop-take, take-append-le}
use Rattle.std.proofs.lemmas.Bool.{cases_lt}
use Rattle.gates.specs.Bytes.{laid, bytes_at}
use Rattle.tables.proofs.Masks.{rows_within}

-- the part that was written
pub part_here : (a w : ℕ) (new xs : List ℕ) → length new ≡ w → a ≤ length xs → bytes_at a w (laid a new xs) ≡ new
part_here a w new xs e l =
    ap (take w) (drop_at (take a xs) (new ++ drop (a + length new) xs) a (length-take-le a xs l)) ∙ take_at new (drop (a + length new) xs) w e

-- a part before it
pub part_front : (a b w : ℕ) (xs tail : List ℕ) → b + w ≤ a → a ≤ length xs → bytes_at b w (take a xs ++ tail) ≡ bytes_at b w xs
part_front a b w xs tail l h =
    let n = length-take-le a xs h in
    sym (drop-take b w (take a xs ++ tail)) ∙ ap (drop b) (take-append-le (b + w) (take a xs) tail (omega arith) ∙ take-take (b + w) a xs l) ∙ drop-take b w xs

-- what lies past it
pub drop_past : (a b : ℕ) (new xs : List ℕ) → a + length new ≤ b → a ≤ length xs → drop b (laid a new xs) ≡ drop b xs
drop_past a b new xs l h =
    let e : b ≡ a + (length new + (b - a - length new)) = omega arith in
    let f : a + length new + (b - a - length new) ≡ b = omega arith in
    ap (λ k. drop k (laid a new xs)) e
    ∙ sym (drop-drop (length new + (b - a - length new)) a (laid a new xs))
    ∙ ap (drop (length new + (b - a - length new))) (drop_at (take a xs) (new ++ drop (a + length new) xs) a (length-take-le a xs h))
    ∙ sym (drop-drop (b - a - length new) (length new) (new ++ drop (a + length new) xs))
    ∙ ap (drop (b - a - length new)) (drop_at new (drop (a + length new) xs) (length new) refl)
    ∙ drop-drop (b - a - length new) (a + length new) xs
    ∙ ap (λ k. drop k xs) f

-- another row than the one written
pub row_other : (w k i : ℕ) (new xs : List ℕ) → length new ≡ w → k * w + w ≤ length xs → (i ≡ k → ⊥) → bytes_at (i * w) w (laid (k * w) new xs) ≡ bytes_at (i * w) w xs
row_other w k i new xs e l ne =
    elim (cases_lt i k) [
      | inl h ↦ (let r = rows_within i k w h in part_front (k * w) (i * w) w xs (new ++ drop (k * w + length new) xs) (omega arith) (omega arith))
      | inr h ↦ (let r = rows_within k i w (omega arith) in ap (take w) (drop_past (k * w) (i * w) new xs (omega arith) (omega arith)))
    ]

-- a write from a place to the end
pub drop_end : (a k : ℕ) (xs ys : List ℕ) → a + k ≡ length xs → drop a (put_mid a k xs ys) ≡ ys
drop_end a k xs ys e =
    drop_at (take a xs) (ys ++ drop k (drop a xs)) a (length-take-le a xs (omega arith))
    ∙ ap (λ zs. ys ++ zs) (drop-drop k a xs ∙ drop_all (a + k) xs (omega arith)) ∙ append-nil ys
