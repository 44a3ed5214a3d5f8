use Rattle.std.proofs.Common.{◌≡◌, false, ◌++◌, get_or, string_bytes}
use Rattle.labels.specs.Papers.{paper}
use Rattle.labels.specs.Lists.{places}
use Rattle.listing.specs.Sheet.{label_lines}
use Rattle.listing.proofs.sheet.add_labels.Given as goal

abbrev pub invariant-loop-w : goal.invariant-loop-w
invariant-loop-w l = string_bytes l.text ≡ string_bytes l.initial.text ++ label_lines (places paper l.zeros) (places paper l.labels) (λ k. get_or l.bits k false) l.w
