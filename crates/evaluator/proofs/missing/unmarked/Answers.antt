use Rattle.std.proofs.Common.{◌≡◌, true, false, rules}
use borrow.Author.Tests.{tests}
use Rattle.std.proofs.lemmas.Iterator.{first_from_Range}
use Rattle.parties.specs.Marks.{is_marked}
use Rattle.parties.proofs.Marking.{lowest_found, none_found}
use Rattle.evaluator.proofs.missing.unmarked.Goals as goal

pub returns-clause-all : goal.returns-clause-all
returns-clause-all c =
    let marks = c.args.progress.now.side.marks in
    none_found marks _ c.find.result (first_from_Range _ _ _ c.find.result (λ i. is_marked marks i ≡ false) (λ i. is_marked marks i ≡ true) c.find.ensures.ran (λ i q e. search (rules, tests)) (λ i q e. search (rules, tests)))

pub returns-clause-lowest : goal.returns-clause-lowest
returns-clause-lowest c =
    let marks = c.args.progress.now.side.marks in
    lowest_found marks _ c.find.result (first_from_Range _ _ _ c.find.result (λ i. is_marked marks i ≡ false) (λ i. is_marked marks i ≡ true) c.find.ensures.ran (λ i q e. search (rules, tests)) (λ i q e. search (rules, tests)))
