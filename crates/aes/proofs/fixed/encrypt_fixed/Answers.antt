use Rattle.aes.specs.Field.{xtime, times_low, times, x_power, squares, inverse}
use Rattle.aes.specs.SBox.{bit, affine_bit, affine_low, affine, s_box}
use Rattle.aes.specs.Bytes.{byte, bytes4, xors}
use Rattle.aes.specs.Cipher.{cipher, fixed_key}
use Rattle.aes.specs.KeyExpansion.{rot_word, sub_word, rcon, term, next_word, schedule, key_expansion}
use Rattle.aes.proofs.fixed.encrypt_fixed.Goals as goal

pub returns : goal.returns
unfolding xtime times_low times x_power squares inverse bit affine_bit affine_low affine s_box byte bytes4 xors rot_word sub_word rcon term next_word schedule key_expansion fixed_key cipher
returns c = c.encrypt_with.ensures
