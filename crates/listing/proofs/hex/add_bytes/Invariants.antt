use Rattle.std.proofs.Common.{◌≡◌, ◌++◌, get_or, string_bytes}
use Rattle.listing.specs.Hex.{hex_bytes}
use Rattle.listing.proofs.hex.add_bytes.Given as goal

abbrev pub invariant-loop-byte : goal.invariant-loop-byte
invariant-loop-byte l = string_bytes l.text ≡ string_bytes l.initial.text ++ hex_bytes (λ k. get_or l.bytes k 0) l.byte-index
