use Rattle.std.proofs.Common.{◌≡◌, ◌++◌, string_bytes}
use Rattle.settlement.specs.Lines.{call_at, line_at}
use Rattle.listing.specs.Calls.{call_lines}
use Rattle.listing.proofs.calls.add_lines.Given as goal

abbrev pub invariant-loop-k : goal.invariant-loop-k
invariant-loop-k l = string_bytes l.text ≡ string_bytes l.initial.text ++ call_lines (call_at l.calls) (line_at l.lines) l.k
