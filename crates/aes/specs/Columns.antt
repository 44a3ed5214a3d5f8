-- What a block of the code stands for: 16 bytes, column after column, the lowest byte of each word first. Assumes nothing.
use Rattle.std.specs.Prelude.{ℕ, List, ◌++◌}
use Rattle.aes.specs.declared.block.Block.{Block}
use Rattle.aes.specs.Bytes.{bytes4}

unfoldable pub columns : ℕ → ℕ → ℕ → ℕ → List ℕ
columns a b c d = bytes4 a ++ (bytes4 b ++ (bytes4 c ++ bytes4 d))

abbrev pub bytes_of : Block → List ℕ
bytes_of s = columns s.a s.b s.c s.d
