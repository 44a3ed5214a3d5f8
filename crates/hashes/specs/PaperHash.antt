-- The paper hash, for work with a pencil. Assumes nothing.
use Rattle.std.specs.Prelude.{ℕ, ◌+◌, ◌*◌, ◌/◌, ◌%◌}
use Rattle.labels.specs.declared.paper.Paper.{Paper}
use Rattle.labels.specs.Papers.{of_word}

-- the two bytes of a 16-bit word exchanged
abbrev pub exchanged : ℕ → ℕ
exchanged n = n % 256 * 256 + n / 256

-- q = (L + t) mod 65536; the answer is (5q + 1) mod 65536 with its bytes exchanged
abbrev pub paper_word : ℕ → ℕ → ℕ
paper_word l t = exchanged ((5 * ((l + t) % 65536) + 1) % 65536)

abbrev pub paper_hash : Paper → ℕ → Paper
paper_hash x t = of_word (paper_word x.word t)
