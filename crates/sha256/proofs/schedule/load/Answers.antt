use Rattle.std.proofs.Common.{◌≡◌, ℕ, ◌<◌, ◌/◌, [], length, get_or, set, ap, ◌∙◌, arith, length-set, below_more}
use Rattle.std.specs.Int.{w32, from_be_bytes}
use Rattle.std.proofs.lemmas.List.{get_or-set_same, get_or-set_other}
use Rattle.std.proofs.lemmas.List.FromFn.{fill_by_all}
use Rattle.sha256.specs.Words.{word_at}
use Rattle.sha256.proofs.Blocks.{block_at, word_read}
use Rattle.sha256.proofs.schedule.load.Goals as goal

pub loop-t-preserved : goal.loop-t-preserved
loop-t-preserved c =
    let w = c.loop-t.w in
    let t = c.loop-t.t in
    let block = c.args.block.now in
    let v = c.from_be_bytes.result in
    let h : t < length w = omega arith in
    let piece = ap (λ l. get_or l t []) c.as_chunks.ensures.front ∙ block_at 4 (length block / 4) t block [] (omega arith) in
    let here : v ≡ word_at block t = c.from_be_bytes.ensures ∙ ap (from_be_bytes w32) piece ∙ word_read block t in
    let others : (k : ℕ) → k < t → get_or (set w t v) k 0 ≡ word_at block k = λ k b. get_or-set_other w t k v 0 (omega arith) ∙ c.loop-t.invariant.0 k b in
    (below_more _ t others (get_or-set_same w t v 0 h ∙ here), length-set w t v ∙ c.loop-t.invariant.1)

pub returns : goal.returns
returns c = fill_by_all (word_at c.args.block.now) c.loop-t.w 16 0 c.loop-t.invariant.1 (λ k h. c.loop-t.invariant.0 k (omega arith))
