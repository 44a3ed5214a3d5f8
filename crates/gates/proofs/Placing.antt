-- A write to a part in the middle. Assumes nothing.
use Rattle.std.proofs.Common.{◌≡◌, ℕ, List, length}
use borrow.Rule.Slice.PartMut.{put_mid}
use Rattle.std.proofs.lemmas.List.{drop-drop}
use Rattle.gates.specs.Bytes.{laid}

pub put_laid : (place k : ℕ) (bytes ys new : List ℕ) → ys ≡ new → k ≡ length new → put_mid place k bytes ys ≡ laid place new bytes
put_laid place k bytes ys new e f = let d = drop-drop k place bytes in cc
