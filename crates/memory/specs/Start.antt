-- What a side's wires carry once it is open. Assumes nothing.
use Rattle.std.specs.Prelude.{ℕ, cond, nat_lt}
use Rattle.labels.specs.Kind.{Kind}
use Rattle.hashes.specs.Draws.{input_zero}

-- of the garbler: an input's wire its zero label, each wire not yet made the zero label of the kind
abbrev pub opened_wire : {L : Type 0} → Kind L → (L → ℕ → L) → L → ℕ → ℕ → L
opened_wire K F seed inputs w = cond (nat_lt w inputs) (input_zero F seed w) K.zero
