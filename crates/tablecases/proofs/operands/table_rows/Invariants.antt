use Rattle.std.proofs.Common.{◌≡◌, ◌*◌}
use Rattle.tablecases.proofs.operands.table_rows.Given as goal

abbrev pub invariant-loop-k : goal.invariant-loop-k
invariant-loop-k l = l.bytes ≡ 2 * l.k
