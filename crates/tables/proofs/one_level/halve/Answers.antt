use Rattle.std.proofs.Common.{◌/◌, length, refl, sym, ap, ◌∙◌, ap₂, arith}
use Rattle.std.proofs.lemmas.List.{get_or_append_left, get_or-drop}
use Rattle.labels.specs.Lists.{places}
use Rattle.tables.proofs.Filling.{holds_more, past_set}
use Rattle.tables.proofs.Growing.{read_place}
use Rattle.tables.proofs.Parts.{front_at}
use Rattle.tables.proofs.one_level.halve.Goals as goal

pub loop-i-preserved : goal.loop-i-preserved
loop-i-preserved g c =
    let K = g.L.Label.kind in
    let i = c.loop-i.i in
    let inv = c.loop-i.invariant in
    let s = c.split_at_mut-front.ensures in
    let a = sym c.index-front-i.is ∙ read_place K c.loop-i.front i c.index-front-i.result (omega arith) c.index-front-i.is ∙ inv.1 i (omega arith) in
    let b = read_place K c.split_at_mut-front.result.1.now i c.index-back-i.result (omega arith) c.index-back-i.is in
    (holds_more K _ _ _ _ _ inv.0 (omega arith) (c.xor.ensures ∙ ap₂ K.xor a b) refl, past_set K _ _ _ _ _ _ inv.1 (omega arith) (omega arith))

pub returns : goal.returns
returns g c =
    let K = g.L.Label.kind in
    let v = c.args.v.now in
    let w = length v / 2 in
    let s = c.split_at_mut-front.ensures in λ i l.
    get_or_append_left c.loop-i.front c.split_at_mut-front.result.1.now K.zero i (omega arith)
    ∙ c.loop-i.invariant.0 i (omega arith)
    ∙ ap₂ K.xor (ap (λ xs. places K xs i) s.front ∙ front_at w v i i K.zero l refl) (ap (λ xs. places K xs i) s.back ∙ get_or-drop w v i K.zero ∙ ap (places K v) (omega arith))
