use Rattle.std.proofs.Common.{◌*◌, ap, ◌∙◌, arith}
use Rattle.gates.specs.Bytes.{laid}
use Rattle.tables.specs.Material.{row_bytes}
use Rattle.tables.proofs.Placing.{part_here, row_other}
use Rattle.tables.proofs.rows.put_row.Goals as goal

pub returns : goal.returns
returns g c =
    let K = g.L.Label.kind in
    let k = c.args.k in
    let xs = c.args.material.now in
    let new = K.bytes c.args.label in
    let long = K.bytes_long c.args.label in
    let e = c.put.ensures ∙ ap (λ w. laid (k * w) new xs) c.width.ensures in
    record {
      here = ap (row_bytes K k) e ∙ part_here (k * K.width) K.width new xs long (omega arith);
      others = λ i ne. ap (row_bytes K i) e ∙ row_other K.width k i new xs long (omega arith) ne;
    }
