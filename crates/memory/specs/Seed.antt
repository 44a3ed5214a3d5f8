-- Seed bytes. Assumes nothing.
use Rattle.std.specs.Prelude.{ℕ, Bool, List, ◌==◌}
use Rattle.std.specs.List.{list_all}

-- every byte is zero
abbrev pub blank : List ℕ → Bool
blank bytes = list_all (λ b. b == 0) bytes
