-- Colours of the outputs' zero labels, and the output bits that they turn labels into. Assumes nothing.
use Rattle.std.specs.Prelude.{ℕ, List, ◌==◌, slice_index}
use Rattle.labels.specs.Kind.{Kind, differs}
use Rattle.labels.specs.Numbers.{digit}
use Rattle.labels.specs.Words.{word_at}
use Rattle.labels.specs.Lists.{listed, places}

module _ {L : Type 0} (K : Kind L) (wires : List L) (outputs : List ℕ) where
  -- the colour of the label on output o's wire
  abbrev pub colour_at : ℕ → ℕ
  colour_at o = digit (K.colour (places K wires (word_at outputs o)))

  abbrev pub colours_of : ℕ → List ℕ
  colours_of n = listed n colour_at

  -- the label's colour ⊕ the byte that came for it
  abbrev pub decoded_at : List ℕ → ℕ → ℕ
  decoded_at colours o = digit (differs (K.colour (places K wires (word_at outputs o))) (slice_index colours o == 1))

  abbrev pub decoded_of : List ℕ → ℕ → List ℕ
  decoded_of colours n = listed n (decoded_at colours)
