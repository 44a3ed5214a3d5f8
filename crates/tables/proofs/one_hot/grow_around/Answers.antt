use Rattle.std.proofs.Common.{◌≡◌, ℕ, ◌+◌, ◌<◌, ◌≤◌, length, ap, ◌∙◌, ap₂, arith}
use Rattle.gates.specs.Tweak.{tweak}
use Rattle.labels.specs.Lists.{places}
use Rattle.tables.specs.Table.{hashed}
use Rattle.tables.proofs.Growing.{read_place, around}
use Rattle.tables.proofs.Running.{ran_then}
use Rattle.tables.proofs.one_hot.grow_around.Goals as goal

pub returns : goal.returns
returns g c =
    let K = g.L.Label.kind in
    let F = g.H.LabelHash.means c.args.h.now in
    let gate = c.args.gate in
    let w = c.args.w in
    let x = c.args.x in
    let v₁ = c.hash_part-first.new.v in
    let v₂ = c.hash_part-second.new.v in
    let r₁ = c.hash_part-first.ensures in
    let r₂ = c.hash_part-second.ensures in
    let n : w + w ≤ length v₂ = omega arith in
    let same : (k : ℕ) → x < k → k < w → hashed K (g.H.LabelHash.means c.hash_part-first.new.h) gate w (places K v₁) k ≡ hashed K F gate w (places K c.args.v.now) k =
    λ k l h. ap₂ (λ f y. f y (tweak gate (w + k))) r₁.ran.kept (r₁.grew.midst k (omega arith) (omega arith)) in
    let eq = c.xor-c.ensures ∙ ap (K.xor c.args.whole) c.xor.ensures in
    let ey = c.xor-2.ensures ∙ ap (K.xor c.xor-c.result) (read_place K v₂ x c.index-v-x.result (omega arith) c.index-v-x.is) in
    record {
      front = λ i l. ap (λ v. places K v i) c.fill_place.ensures ∙ around K w x _ _ _ _ _ _ _ _ _ _ (omega arith) n r₁.grew r₂.grew same r₁.answer r₂.answer eq ey i l;
      ran = ran_then _ _ _ _ _ _ _ _ _ r₁.ran r₂.ran (omega arith);
    }
