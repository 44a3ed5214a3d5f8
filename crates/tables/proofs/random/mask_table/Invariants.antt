use Rattle.std.proofs.Common.{◌≡◌, ℕ, ◌<◌, ◌≤◌, get_or}
use lib.Bits.{bit_xor}
use Rattle.labels.specs.Words.{word_at}
use Rattle.tables.proofs.random.mask_table.Given as goal

abbrev pub invariant-loop-i : goal.invariant-loop-i
invariant-loop-i l =
    ((k : ℕ) → k < l.i → get_or l.fs k 0 ≡ bit_xor (word_at l.rows (bit_xor k l.alpha)) (get_or l.initial.fs k 0))
    × ((k : ℕ) → l.i ≤ k → get_or l.fs k 0 ≡ get_or l.initial.fs k 0)
