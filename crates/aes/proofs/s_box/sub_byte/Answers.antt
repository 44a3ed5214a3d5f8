use Rattle.std.proofs.Common.{◌<◌, rules}
use Rattle.aes.specs.Field.{xtime, times_low, times, squares, inverse}
use Rattle.aes.specs.SBox.{bit, affine_bit, affine_low, affine, s_box}
use Rattle.aes.proofs.Entries.{table_at, inverse_law}
use Rattle.aes.proofs.s_box.sub_byte.Goals as goal

pub returns : goal.returns
unfolding xtime times_low times squares inverse bit affine_bit affine_low affine s_box
returns c =
    let h : c.args.x < 256 = search rules in
    record { value = table_at s_box 256 c.args.x 0 h; inverse = inverse_law }
