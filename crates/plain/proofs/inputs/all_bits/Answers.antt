use Rattle.std.proofs.Common.{◌<◌, ◌≤◌, length, get_or, refl, rules}
use Rattle.std.proofs.lemmas.Iterator.{cases_from_all, YieldsList-from_slice}
use borrow.Author.Tests.{tests}
use Rattle.circuit.proofs.Bounds.{below_from_all}
use Rattle.plain.proofs.inputs.all_bits.Goals as goal

pub returns : goal.returns
returns c =
    below_from_all (λ i. get_or c.args.bits.now i 0) (λ x. x) c.args.bits.now (length c.args.bits.now) 2 c.all.result refl (λ k h. refl)
    (cases_from_all _ _ _ (λ x. x < 2) (λ x. 2 ≤ x) c.all.ensures.ran
    (YieldsList-from_slice c.args.bits.now cc) (λ x q k. search (rules, tests)) (λ x q k. search (rules, tests)))
