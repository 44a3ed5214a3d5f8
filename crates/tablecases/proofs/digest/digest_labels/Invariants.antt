use Rattle.std.proofs.Common.{◌≡◌, take}
use Rattle.tablecases.specs.Digests.{digest_of_labels}
use Rattle.tablecases.proofs.digest.digest_labels.Given as goal

abbrev pub invariant-loop-label : goal.invariant-loop-label
invariant-loop-label g l = l.digest ≡ digest_of_labels g.L.Label.kind (take l.label-index l.labels)
