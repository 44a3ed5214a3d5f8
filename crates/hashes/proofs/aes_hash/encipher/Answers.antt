use Rattle.std.proofs.Common.{rules}
use Rattle.aes.specs.Columns.{bytes_of}
use Rattle.hashes.proofs.AesBytes.{on_labels}
use Rattle.hashes.proofs.aes_hash.encipher.Goals as goal

pub returns : goal.returns
returns c =
    on_labels c.args.label.low c.args.label.high c.words-low.result.0 c.words-low.result.1
    (bytes_of c.from_words.result) (bytes_of c.encrypt_fixed-block.result)
    (search rules) (search rules) (search rules) (search rules)
    c.from_words.ensures c.encrypt_fixed-block.ensures c.words-low.ensures
