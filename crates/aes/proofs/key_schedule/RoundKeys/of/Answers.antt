use Rattle.std.proofs.Common.{refl, arith}
use Rattle.aes.proofs.Expansion.{start, word_added}
use Rattle.aes.proofs.key_schedule.RoundKeys.of.Goals as goal

pub loop-i-init : goal.loop-i-init
loop-i-init c = let e = c.copy_from_slice.ensures.after in rw e (start _ _ _ _ _ refl)

pub loop-i-preserved : goal.loop-i-preserved
loop-i-preserved c = word_added _ _ _ _ c.loop-i.invariant (omega arith) (omega arith) c.key_term.ensures
