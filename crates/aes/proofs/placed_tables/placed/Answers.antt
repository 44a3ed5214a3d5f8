use Rattle.std.proofs.Common.{◌<◌, rules}
use Rattle.aes.specs.Field.{xtime, times_low, times, squares, inverse}
use Rattle.aes.specs.SBox.{bit, affine_bit, affine_low, affine, s_box}
use Rattle.aes.specs.Shares.{alone}
use Rattle.aes.proofs.Placed.{entry}
use Rattle.aes.proofs.placed_tables.placed.Goals as goal

pub returns : goal.returns
unfolding xtime times_low times squares inverse bit affine_bit affine_low affine s_box alone
returns g c =
    let h : c.args.x < 256 = search rules in
    entry g.row.R c.args.x c.requires h
