use Rattle.std.proofs.Common.{◌≡◌, ◌*◌, map}
use Rattle.aes.specs.Bytes.{bytes4}
use Rattle.aes.specs.Cipher.{rounds}
use Rattle.aes.specs.Columns.{bytes_of}
use Rattle.aes.specs.KeyExpansion.{round_key}
use Rattle.aes.specs.Rounds.{add_round_key}
use Rattle.aes.proofs.cipher.encrypt_with.Given as goal

abbrev pub invariant-loop-r : goal.invariant-loop-r
invariant-loop-r l =
    bytes_of l.state ≡ rounds (map bytes4 l.words) (add_round_key (bytes_of l.fn.block) (round_key (map bytes4 l.words) 0)) (3 * l.r)
