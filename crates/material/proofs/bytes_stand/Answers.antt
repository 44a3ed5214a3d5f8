use Rattle.material.proofs.Sizes.{whole_bytes}
use Rattle.material.proofs.bytes_stand.Goals as goal

pub returns : goal.returns
returns c = whole_bytes
