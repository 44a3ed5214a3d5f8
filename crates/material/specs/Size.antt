-- The size of a table gate's material: n inputs, m outputs, labels of so many bytes. Assumes nothing.
use Rattle.std.specs.Prelude.{◌≡◌, ℕ, ◌+◌, ◌-◌, ◌*◌, ◌/◌, ◌^◌}

-- so many bits in whole bytes
abbrev pub in_bytes : ℕ → ℕ
in_bytes bits = (bits + 7) / 8

-- the rows of labels: n - 1 of the one-hot step, and m at each of n levels
abbrev pub labels_of : ℕ → ℕ → ℕ
labels_of n m = n - 1 + n * m

-- the bits of these rows and of the table of 2^n rows of m bits, without the filling, for labels of κ bits
abbrev pub table_bits : ℕ → ℕ → ℕ → ℕ
table_bits κ n m = (n - 1) * κ + n * m * κ + 2 ^ n * m

abbrev pub bits_of : ℕ → ℕ → ℕ → ℕ
bits_of width n m = table_bits (8 * width) n m

abbrev pub bytes_of : ℕ → ℕ → ℕ → ℕ
bytes_of width n m = labels_of n m * width + in_bytes (2 ^ n * m)

-- the rows are whole bytes, so that only the table's bits are filled up
abbrev pub WholeBytes : Type 0
WholeBytes = (width n m : ℕ) → bytes_of width n m ≡ in_bytes (bits_of width n m)
