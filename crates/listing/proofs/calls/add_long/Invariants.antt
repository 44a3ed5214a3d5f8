use Rattle.std.proofs.Common.{◌≡◌, ◌++◌, ◌-◌, slice_index, string_bytes}
use Rattle.listing.specs.Hex.{hex_bytes}
use Rattle.listing.proofs.calls.add_long.Given as goal

abbrev pub invariant-loop-k : goal.invariant-loop-k
invariant-loop-k l = string_bytes l.text ≡ string_bytes l.initial.text ++ hex_bytes (λ k. slice_index l.bytes (15 - k)) l.k
