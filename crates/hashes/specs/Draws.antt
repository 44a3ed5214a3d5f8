-- What a seed gives under a function F of a label and a tweak: the offset, and the zero labels of the inputs. Assumes nothing.
use Rattle.std.specs.Prelude.{ℕ, ◌+◌, ◌^◌}
use Rattle.labels.specs.Kind.{Kind}

module _ {L : Type 0} (F : L → ℕ → L) (seed : L) where
  abbrev pub draw : ℕ → L
  draw d = F seed (2 ^ 32 + d)

  -- the offset Δ
  abbrev pub offset : Kind L → L
  offset K = K.raised (draw 0)

  -- the zero label of input i
  abbrev pub input_zero : ℕ → L
  input_zero i = draw (1 + i)
