use Rattle.std.proofs.Common.{◌*◌, ◌≤◌, length, mul-le-mul_right, arith}
use Rattle.std.specs.Mem.{type_size}
use Rattle.tables.proofs.wires.local_labels_fit.Goals as goal

pub returns : goal.returns
returns g c =
    let h : 128 * type_size g.row.L ≤ length c.args.labels.now * type_size g.row.L = mul-le-mul_right (type_size g.row.L) (omega arith) in
    let e = c.size_of_val-bytes.ensures in
    omega arith
