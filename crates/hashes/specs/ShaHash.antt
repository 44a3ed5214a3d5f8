-- The SHA hash: the first 16 bytes of SHA-256 of the label's 16 bytes and the tweak's 8, lowest first, read as a label. Assumes nothing.
use Rattle.std.specs.Prelude.{ℕ, ◌++◌, take}
use Rattle.labels.specs.declared.long.Long.{Long}
use Rattle.labels.specs.Longs.{long}
use Rattle.labels.specs.Words.{eight}
use Rattle.sha256.specs.Digest.{digest}

abbrev pub sha_hash : Long → ℕ → Long
sha_hash x t = long.from (take 16 (digest (long.bytes x ++ eight t)))
