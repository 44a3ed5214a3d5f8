-- Lists by place. Assumes nothing.
use Rattle.std.specs.Prelude.{ℕ, zero, suc, List, [], ◌∷◌, ◌++◌, slice_index_or}
use Rattle.labels.specs.Kind.{Kind}

-- f 0, f 1, up to f (n - 1), one after another
abbrev pub each : {X : Type 0} → ℕ → (ℕ → List X) → List X
each zero f = []
each (suc n) f = each n f ++ f n

-- the list f 0, f 1, up to f (n - 1)
abbrev pub listed : {X : Type 0} → ℕ → (ℕ → X) → List X
listed n f = each n (λ i. f i ∷ [])

-- a list of labels as a function of the place
abbrev pub places : {L : Type 0} → Kind L → List L → ℕ → L
places K V i = slice_index_or V i K.zero
