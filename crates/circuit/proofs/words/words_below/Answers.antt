use Rattle.std.proofs.Common.{ℕ, ◌/◌, ◌<◌, ◌≤◌, length, refl, ap, ◌∙◌, zero-add, arith, rules}
use Rattle.std.specs.List.{range_with_len}
use Rattle.std.proofs.lemmas.List.FromFn.{length-range_with_len, get_or-range_with_len}
use Rattle.std.proofs.lemmas.Iterator.{cases_from_all, YieldsList-from_range}
use borrow.Author.Tests.{tests}
use Rattle.labels.specs.Words.{word_at}
use Rattle.circuit.proofs.Bounds.{below_from_all}
use Rattle.circuit.proofs.words.words_below.Goals as goal

pub returns : goal.returns
returns c =
    let f : ℕ → ℕ = word_at c.args.bytes.now in
    let n : ℕ = length c.args.bytes.now / 2 in
    below_from_all f f (range_with_len 0 n) n c.args.bound c.all.result (length-range_with_len 0 n) (λ k h. ap f (get_or-range_with_len 0 n k 0 h ∙ zero-add k))
    (cases_from_all _ _ _ (λ k. f k < c.args.bound) (λ k. c.args.bound ≤ f k) c.all.ensures.ran
    (YieldsList-from_range 0 n n refl (omega arith)) (λ k q e. search (rules, tests)) (λ k q e. search (rules, tests)))
