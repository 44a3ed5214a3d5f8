-- FNV-1a in 64 bits. Assumes nothing.
use Rattle.std.specs.Prelude.{ℕ, ◌*◌, ◌%◌, ◌^◌, List, bit_xor, fold}
use Rattle.labels.specs.Kind.{Kind}

-- the digest of no bytes
abbrev pub empty : ℕ
empty = 0xCBF29CE484222325

-- a digest and the byte that follows
abbrev pub extended : ℕ → ℕ → ℕ
extended d b = bit_xor d b * 0x100000001B3 % 2 ^ 64

-- a digest and the bytes that follow
abbrev pub extended_by : ℕ → List ℕ → ℕ
extended_by d bytes = fold extended d bytes

-- the digest of labels' bytes, one label after the other
abbrev pub digest_of_labels : {L : Type 0} → Kind L → List L → ℕ
digest_of_labels K labels = fold (λ d x. extended_by d (K.bytes x)) empty labels
