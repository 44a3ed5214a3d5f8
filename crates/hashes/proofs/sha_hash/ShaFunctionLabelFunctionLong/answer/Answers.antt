use Rattle.std.proofs.Common.{◌≡◌, ℕ, ◌/◌, ◌%◌, ◌^◌, ◌<◌, List, ◌++◌, take, ap, ◌∙◌, ap₂, arith}
use Rattle.std.specs.Int.{w64, to_le_bytes}
use Rattle.labels.specs.Longs.{long}
use Rattle.labels.specs.Words.{eight}
use Rattle.sha256.specs.Digest.{digest}
use Rattle.hashes.proofs.sha_hash.ShaFunctionLabelFunctionLong.answer.Goals as goal

-- the last byte of a word of 64 bits is all that is left
le_bytes-eight : (n : ℕ) → n < 2 ^ 64 → to_le_bytes w64 n ≡ eight n
le_bytes-eight n h = let last : n / 72057594037927936 % 256 ≡ n / 72057594037927936 = omega arith in cc

pub returns : goal.returns
returns c =
    let back = c.copy_from_slice.ensures.after ∙ c.to_le_bytes.ensures ∙ le_bytes-eight c.args.tweak (omega arith) in
    c.read.ensures ∙ ap (λ (bytes : List ℕ). long.from (take 16 bytes)) (c.sha256-digest.ensures ∙ ap₂ (λ (x y : List ℕ). digest (x ++ y)) c.write.ensures back)
