use Rattle.tables.proofs.Packing.{packing_byte}
use Rattle.std.proofs.Common.{arith}
use Rattle.tables.proofs.pack.move_byte.Goals as goal

pub returns-clause-kept : goal.returns-clause-kept
returns-clause-kept c w m f h = packing_byte w m f c.args.held.at c.args.held.count c.args.held.bits c.args.bytes.now h (omega arith) (omega arith)
