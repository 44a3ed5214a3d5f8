-- How the refusals of a worksheet's input come about. Assumes nothing.
use Rattle.std.proofs.Common.{◌≡◌, ℕ, ◌+◌, ◌-◌, ◌*◌, ◌<◌, ◌≤◌, true, false, eqb, ltb, List, length, take, drop, Some, None, ◌∙◌, ap₂, arith}
use Rattle.std.proofs.lemmas.Bool.{lt-ltb, le-ltb, eq-eqb, ne_eqb}
use Rattle.std.proofs.lemmas.List.{get_or-take, length-drop, length-take-le}
use Rattle.labels.specs.Words.{word_at}
use Rattle.circuit.specs.Header.{sizes_of, within}
use Rattle.circuit.specs.declared.refusal.Refusal.TheVariants.{Short, Size, Length}
use Rattle.listing.specs.Worksheet.{circuit_end, circuit_in, seed_in, bits_from, sheet_refusal}

-- the front of a list has the words of the list
word_front : (n k : ℕ) (xs : List ℕ) → 2 * k + 1 < n → word_at (take n xs) k ≡ word_at xs k
word_front n k xs h = ap₂ (λ (a b : ℕ). a + 256 * b) (get_or-take n xs (2 * k) 0 (omega arith)) (get_or-take n xs (2 * k + 1) 0 h)

pub sizes_front : (n : ℕ) (xs : List ℕ) → 10 ≤ n → sizes_of (take n xs) ≡ sizes_of xs
sizes_front n xs h =
    let a = word_front n 0 xs (omega arith) in
    let b = word_front n 1 xs (omega arith) in
    let d = word_front n 2 xs (omega arith) in
    let e = word_front n 3 xs (omega arith) in
    let f = word_front n 4 xs (omega arith) in
    cc

module _ (input : List ℕ) where
  pub input_short : length input < 10 → sheet_refusal input ≡ Some Short
  unfolding sheet_refusal
  input_short h = let t : ltb (length input) 10 ≡ true = lt-ltb (length input) 10 h in rw t

  module _ (long : 10 ≤ length input) where
    not_short : ltb (length input) 10 ≡ false
    not_short = le-ltb (length input) 10 long

    pub input_size : within (sizes_of input) ≡ false → sheet_refusal input ≡ Some Size
    unfolding sheet_refusal
    input_size e = rw (not_short, e)

    module _ (ok : within (sizes_of input) ≡ true) where
      pub input_length : (length input ≡ circuit_end input + 2 + (sizes_of input).inputs → ⊥) → sheet_refusal input ≡ Some Length
      unfolding sheet_refusal
      input_length h = let t : eqb (length input) (circuit_end input + 2 + (sizes_of input).inputs) ≡ false = ne_eqb _ _ h in rw (not_short, ok, t)

      pub input_passes : length input ≡ circuit_end input + 2 + (sizes_of input).inputs → sheet_refusal input ≡ None
      unfolding sheet_refusal
      input_passes h = let t : eqb (length input) (circuit_end input + 2 + (sizes_of input).inputs) ≡ true = eq-eqb _ _ h in rw (not_short, ok, t)

  pub front_sizes : sizes_of (circuit_in input) ≡ sizes_of input
  front_sizes = sizes_front (circuit_end input) input (omega arith)

  pub bits_count : length input ≡ circuit_end input + 2 + (sizes_of input).inputs → length (bits_from input) ≡ (sizes_of input).inputs
  bits_count h = length-drop (circuit_end input + 2) input ∙ omega arith

  pub seed_count : length input ≡ circuit_end input + 2 + (sizes_of input).inputs → length (seed_in input) ≡ 2
  seed_count h = let d : length (drop (circuit_end input) input) ≡ length input - circuit_end input = length-drop (circuit_end input) input in length-take-le 2 (drop (circuit_end input) input) (omega arith)
