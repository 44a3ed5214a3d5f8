use Rattle.std.proofs.Common.{rules}
use Rattle.aes.proofs.Words.{read_word}
use Rattle.aes.proofs.block.column_of.Goals as goal

pub returns : goal.returns
returns c = read_word c.args.rows _ (search rules) (search rules) c.from_le_bytes.ensures
