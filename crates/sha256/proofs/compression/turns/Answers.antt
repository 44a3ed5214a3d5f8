use Rattle.std.proofs.Common.{◌≡◌, ℕ, ◌/◌, List, [], length, sym, ◌∙◌, length-append, arith, rules}
use Rattle.std.specs.Iterator.Adapters.{zip_first, zip_second}
use Rattle.std.specs.Slice.Iter.{iter_rest}
use Rattle.std.specs.Simd.{first_chunks}
use Rattle.std.proofs.lemmas.Slice.Zip.{zip_turn}
use Rattle.sha256.specs.Constants.{constants}
use Rattle.sha256.proofs.Blocks.{block_at}
use Rattle.sha256.proofs.Loops.{after_none, eight_more}
use Rattle.sha256.proofs.compression.turns.Goals as goal

pub loop-k-init : goal.loop-k-init
loop-k-init c = sym (after_none _ _)

pub loop-k-preserved : goal.loop-k-preserved
loop-k-preserved c =
    let s = c.into_iter-k-iterator.result in
    let words = c.args.words.now in
    let ks : List (List ℕ) = first_chunks 8 8 constants in
    let ws : List (List ℕ) = first_chunks 8 (length words / 8) words in
    let first : iter_rest (zip_first s) ≡ ks = search rules in
    let second : iter_rest (zip_second s) ≡ ws = search rules in
    let xs = c.loop-k.yielded in
    let i = length xs in
    let z = zip_turn ks ws xs s _ c.next.new.self _ first second c.loop-k.yielded_by _ c.in-Some.is c.next.ensures.steps in
    let k = z.2 [] ∙ block_at 8 8 i constants [] (omega arith) in
    let w = z.3 [] ∙ block_at 8 (length words / 8) i words [] (omega arith) in
    eight_more c.args.start words _ _ i k w
    c.loop-k.state c.turn-s.result c.turn-s-in-loop-k.result c.turn-s-in-loop-k-2.result c.turn-s-in-loop-k-3.result c.turn-s-in-loop-k-4.result c.turn-s-in-loop-k-5.result c.turn-s-in-loop-k-6.result c.turn-state.result
    _ c.loop-k.invariant
    c.turn-s.ensures c.turn-s-in-loop-k.ensures c.turn-s-in-loop-k-2.ensures c.turn-s-in-loop-k-3.ensures c.turn-s-in-loop-k-4.ensures c.turn-s-in-loop-k-5.ensures c.turn-s-in-loop-k-6.ensures c.turn-state.ensures
    (length-append xs _)
