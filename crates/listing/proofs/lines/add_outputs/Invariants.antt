use Rattle.std.proofs.Common.{◌≡◌, ◌++◌, get_or, string_bytes}
use Rattle.listing.specs.Lines.{numbers}
use Rattle.listing.proofs.lines.add_outputs.Given as goal

abbrev pub invariant-loop-bit : goal.invariant-loop-bit
invariant-loop-bit l = string_bytes l.text ≡ string_bytes l.initial.text ++ numbers (λ i. get_or l.outputs i 0) l.bit-index
