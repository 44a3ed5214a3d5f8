-- The colours that the garbler shows are bits. Assumes nothing.
use Rattle.std.proofs.Common.{◌≡◌, ℕ, ◌<◌, true, List, length, get_or, arith}
use Rattle.labels.specs.Kind.{Kind}
use Rattle.labels.specs.Words.{word_at}
use Rattle.circuit.specs.Words.{all_below}
use Rattle.circuit.proofs.Bounds.{below_all}
use Rattle.memory.specs.Outputs.{colour_at, colours_of}
use Rattle.labels.specs.Lists.{places}
use Rattle.settlement.proofs.AlikeBits.{digit_low}
use Rattle.tables.proofs.Packing.{length_listed, get_or_listed}

module _ {L : Type 0} (K : Kind L) (zeros : List L) (list : List ℕ) (n : ℕ) where
  pub colours_long : length (colours_of K zeros list n) ≡ n
  colours_long = length_listed (colour_at K zeros list) n

  at : (o : ℕ) → o < n → get_or (colours_of K zeros list n) o 0 ≡ colour_at K zeros list o
  at o h = get_or_listed (colour_at K zeros list) n o 0 h

  -- each is a bit
  pub colours_small : all_below (λ i. get_or (colours_of K zeros list n) i 0) n 2 ≡ true
  colours_small =
      below_all (λ i. get_or (colours_of K zeros list n) i 0) n 2 (λ o h.
      let e = at o h in
      let s = digit_low (K.colour (places K zeros (word_at list o))) in
      omega arith)
