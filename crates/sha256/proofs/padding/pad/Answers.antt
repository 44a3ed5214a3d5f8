use Rattle.std.proofs.Common.{◌≡◌, ℕ, ◌+◌, ◌-◌, List, ◌++◌, length, drop, set, replicate, ap, ◌∙◌, ap₂, arith}
use borrow.Rule.Slice.PartMut.{put_mid}
use Rattle.sha256.specs.Padding.{zeros}
use Rattle.sha256.proofs.Tail.{written}
use Rattle.sha256.proofs.padding.pad.Goals as goal

pub returns : goal.returns
returns c =
    let bytes = c.args.bytes.now in
    let rest = c.args.rest.now in
    let k = zeros c.args.total in
    let a = length bytes - 8 in
    let n = length bytes - a in
    let long : length bytes ≡ length rest + 9 + k = omega (arith, c.requires.room, c.requires.short) in
    let blank : bytes ≡ replicate (length rest + 9 + k) 0 = c.requires.blank ∙ ap (λ (j : ℕ). replicate j 0) long in
    let marked = c.mark.ensures ∙ ap (λ (x : List ℕ). set (x ++ drop (length rest) bytes) (length rest) 128) c.copy_from_slice.ensures.after in
    ap₂ (λ (x y : List ℕ). put_mid a n x y) marked c.write_length.ensures
    ∙ written rest k bytes _ a n blank (omega (arith, long)) (omega (arith, long))
