use Rattle.std.proofs.Common.{◌≡◌, ◌+◌, ◌-◌, sym, ◌∙◌, arith}
use Rattle.gates.proofs.Placing.{put_laid}
use Rattle.gates.proofs.rows.put.Goals as goal

pub returns : goal.returns
returns g c =
    let n : c.args.place + c.width.result - c.args.place ≡ c.width.result = omega arith in
    put_laid c.args.place _ c.args.material.now _ _ c.write.ensures (n ∙ c.width.ensures ∙ sym (g.L.Label.kind.bytes_long c.args.label))
