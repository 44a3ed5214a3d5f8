use Rattle.std.proofs.Common.{◌≡◌, ℕ, ◌+◌, ◌*◌, set, sym, ap, ap₂, ◌∙◌, inl, inr, arith}
use Rattle.std.proofs.lemmas.Bool.{cases_eq}
use Rattle.std.proofs.lemmas.List.{get_or-set_same, get_or-set_other}
use Rattle.labels.specs.Lists.{places}
use Rattle.tables.proofs.Filling.{past_set}
use Rattle.tables.proofs.Growing.{read_place}
use Rattle.tables.proofs.Sums.{sum_more}
use Rattle.tables.proofs.wires.take_bit.Goals as goal

pub loop-k-preserved : goal.loop-k-preserved
loop-k-preserved g c =
    let K = g.L.Label.kind in
    let old : ℕ → g.row.L.Denot = places K c.args.buckets.now in
    let t = c.loop-k.buckets in
    let a = c.args.a in
    let k = c.loop-k.k in
    let inv = c.loop-k.invariant in
    let x : c.index-buckets-a.result ≡ old (a + 2 * k) = read_place K t (a + 2 * k) c.index-buckets-a.result (omega arith) c.index-buckets-a.is ∙ inv.2 (a + 2 * k) (omega arith) in
    let y : c.index-buckets-a-in-loop-k.result ≡ old (a + (2 * k + 1)) = read_place K t (a + (2 * k + 1)) c.index-buckets-a-in-loop-k.result (omega arith) c.index-buckets-a-in-loop-k.is ∙ inv.2 (a + (2 * k + 1)) (omega arith) in
    let s = c.xor.ensures ∙ ap₂ K.xor x y in (
      sum_more K k (λ k. old (a + (2 * k + 1))) _ _ _ inv.0 y c.xor-all.ensures,
      (λ i l. elim (cases_eq i k) [
        | inl e ↦ ap (λ d. places K (set t (a + k) c.xor.result) (a + d)) e ∙ get_or-set_same t (a + k) c.xor.result K.zero (omega arith) ∙ s ∙ ap (λ d. K.xor (old (a + 2 * d)) (old (a + (2 * d + 1)))) (sym e)
        | inr e ↦ get_or-set_other t (a + k) (a + i) c.xor.result K.zero (omega arith) ∙ inv.1 i (omega arith)
      ]),
      past_set K _ _ _ _ _ _ inv.2 (omega arith) (omega arith),
    )
