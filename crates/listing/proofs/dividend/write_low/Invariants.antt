use Rattle.std.proofs.Common.{◌≡◌, take}
use Rattle.listing.specs.Dividend.{low_bits}
use Rattle.listing.proofs.dividend.write_low.Given as goal

abbrev pub invariant-loop-j : goal.invariant-loop-j
invariant-loop-j l = take l.j l.out ≡ low_bits l.j l.value
