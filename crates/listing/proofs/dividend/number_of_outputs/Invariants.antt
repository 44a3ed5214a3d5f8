use Rattle.std.proofs.Common.{◌≡◌, eqb, get_or}
use Rattle.labels.specs.Numbers.{number}
use Rattle.listing.proofs.dividend.number_of_outputs.Given as goal

abbrev pub invariant-loop-j : goal.invariant-loop-j
invariant-loop-j l = l.sum ≡ number l.j (λ o. eqb (get_or l.outputs o 0) 1)
