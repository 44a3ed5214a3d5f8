use Rattle.std.proofs.Common.{ap, ◌∙◌, arith}
use lib.Bits.{bit_xor, xor_lt}
use Rattle.labels.specs.Words.{word_at}
use Rattle.tables.proofs.random.mask_table.Goals as goal

pub table_row-requires : goal.table_row-requires
table_row-requires c = let b = xor_lt c.args.n c.loop-i.i c.args.alpha (omega arith) (omega arith) in omega arith

pub returns : goal.returns
returns c = λ i l. c.loop-i.invariant.0 i (omega arith) ∙ ap (bit_xor (word_at c.args.rows.now (bit_xor i c.args.alpha))) (c.mix_levels.ensures i (omega arith))
