use Rattle.std.proofs.Common.{refl}
use Rattle.sha256.specs.Schedule.{extended, schedule}
use Rattle.sha256.specs.Compression.{after}
use Rattle.sha256.specs.Padding.{padded}
use Rattle.sha256.specs.Digest.{output, digest}
use Rattle.sha256.proofs.vector_stands.Goals as goal

pub returns : goal.returns
unfolding extended schedule after padded output digest
returns c = refl
