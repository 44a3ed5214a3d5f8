-- A table gate's material in bytes: rows of labels, then a table of bits. Assumes nothing.
use Rattle.std.specs.Prelude.{ℕ, suc, ◌+◌, ◌-◌, ◌*◌, ◌/◌, ◌%◌, ◌^◌, Bool, false, cond, List, ◌++◌, drop, nat_lt, slice_index}
use Rattle.labels.specs.Kind.{Kind}
use Rattle.gates.specs.Bytes.{bytes_at}
use Rattle.material.specs.Size.{in_bytes, labels_of}
use Rattle.labels.specs.Numbers.{bit, number}
use Rattle.labels.specs.Lists.{each, listed}

-- bit p of w rows of m bits, row after row, the lowest bit first, with zero bits past the last row
abbrev pub stream : ℕ → ℕ → (ℕ → ℕ) → ℕ → Bool
stream w m f p = cond (nat_lt p (w * m)) (bit (p % m) (f (p / m))) false

-- w rows of m bits in bytes
abbrev pub packed : ℕ → ℕ → (ℕ → ℕ) → List ℕ
packed w m f = listed (in_bytes (w * m)) (λ b. number 8 (λ k. stream w m f (8 * b + k)))

-- bit p of a string of bytes
abbrev pub bit_at : List ℕ → ℕ → Bool
bit_at bytes p = bit (p % 8) (slice_index bytes (p / 8))

-- row i of the m bits that a string of bytes packs
abbrev pub unpacked : ℕ → List ℕ → ℕ → ℕ
unpacked m bytes i = number m (λ j. bit_at bytes (i * m + j))

module _ {L : Type 0} (K : Kind L) where
  -- the bytes of row k of a material, and the label that they write
  abbrev pub row_bytes : ℕ → List ℕ → List ℕ
  row_bytes k bytes = bytes_at (k * K.width) K.width bytes

  abbrev pub row_at : List ℕ → ℕ → L
  row_at bytes k = K.from (row_bytes k bytes)

  -- the one-hot rows, of the wires from 1 on
  abbrev pub one_hot_part : ℕ → (ℕ → L) → List ℕ
  one_hot_part n rows = each (n - 1) (λ k. K.bytes (rows (suc k)))

  -- the mask rows, by level and output
  abbrev pub mask_part : ℕ → ℕ → (ℕ → ℕ → L) → List ℕ
  mask_part n m masks = each n (λ d. each m (λ j. K.bytes (masks d j)))

  -- the whole material, with the packed numbers f' at its end
  abbrev pub written : ℕ → ℕ → (ℕ → L) → (ℕ → ℕ → L) → (ℕ → ℕ) → List ℕ
  written n m rows masks f = one_hot_part n rows ++ (mask_part n m masks ++ packed (2 ^ n) m f)

  -- and its parts, as they are read
  abbrev pub one_hot_rows : List ℕ → ℕ → L
  one_hot_rows bytes k = row_at bytes (k - 1)

  abbrev pub mask_rows : ℕ → ℕ → List ℕ → ℕ → ℕ → L
  mask_rows n m bytes d j = row_at bytes (n - 1 + (d * m + j))

  abbrev pub table_rows : ℕ → ℕ → List ℕ → ℕ → ℕ
  table_rows n m bytes = unpacked m (drop (labels_of n m * K.width) bytes)
