-- Words of a part. Assumes nothing.
use Rattle.std.proofs.Common.{◌≡◌, ℕ, ◌+◌, ◌*◌, ◌<◌, ◌≤◌, List, length, get_or, take, drop, ◌∙◌, arith}
use Rattle.std.proofs.lemmas.List.{get_or-take, get_or-drop, take-take, length-take-le, length-drop}
use Rattle.labels.specs.Words.{word_at}
use Rattle.circuit.specs.Words.{part}

-- byte i of a part
byte_of : (from count i : ℕ) (xs : List ℕ) → i < 2 * count → get_or (part from count xs) i 0 ≡ get_or xs (2 * from + i) 0
byte_of from count i xs h = get_or-take (2 * count) (drop (2 * from) xs) i 0 h ∙ get_or-drop (2 * from) xs i 0

-- word k of a part
pub word_of_part : (from count k : ℕ) (xs : List ℕ) → k < count → word_at (part from count xs) k ≡ word_at xs (from + k)
word_of_part from count k xs h =
    let low : get_or (part from count xs) (2 * k) 0 ≡ get_or xs (2 * from + 2 * k) 0 = byte_of from count (2 * k) xs (omega arith) in
    let high : get_or (part from count xs) (2 * k + 1) 0 ≡ get_or xs (2 * from + (2 * k + 1)) 0 = byte_of from count (2 * k + 1) xs (omega arith) in
    let at_low : 2 * from + 2 * k ≡ 2 * (from + k) = omega arith in
    let at_high : 2 * from + (2 * k + 1) ≡ 2 * (from + k) + 1 = omega arith in
    cc

-- the front of a part
pub part_front : (from count n : ℕ) (xs : List ℕ) → n ≤ count → take (2 * n) (part from count xs) ≡ part from n xs
part_front from count n xs h = take-take (2 * n) (2 * count) (drop (2 * from) xs) (omega arith)

pub length_part : (from count : ℕ) (xs : List ℕ) → 2 * (from + count) ≤ length xs → length (part from count xs) ≡ 2 * count
length_part from count xs h =
    let room : 2 * count ≤ length (drop (2 * from) xs) = simp length-drop (omega arith) in
    length-take-le (2 * count) (drop (2 * from) xs) room
