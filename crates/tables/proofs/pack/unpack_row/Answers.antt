use Rattle.std.proofs.Common.{ℕ, ◌/◌, ◌%◌, ◌^◌, ap, ◌∙◌, arith}
use Rattle.std.proofs.lemmas.Nat.{one_shl}
use Rattle.tables.proofs.Packing.{window_at}
use Rattle.tables.proofs.pack.unpack_row.Goals as goal

pub returns : goal.returns
returns c =
    let m = c.args.m in
    let p = c.args.p in
    let n : ℕ = c.from_le_bytes-window.result in
    ap (λ k. n / 2 ^ (p % 8) % k) (one_shl m 32 (omega arith))
    ∙ window_at c.args.bytes.now p m _ _ _ n c.byte_at-low.ensures.value c.byte_at-low.ensures.within c.byte_at-middle.ensures.value c.byte_at-middle.ensures.within
    c.byte_at-high.ensures.value c.byte_at-high.ensures.within (omega arith) (omega arith)
