use Rattle.std.proofs.Common.{◌≡◌, ◌+◌, ◌-◌, ◌*◌, ◌%◌, ◌^◌, length, replicate, get_or, ap, ◌∙◌, arith}
use Rattle.std.proofs.lemmas.Nat.{one_shl}
use Rattle.std.proofs.lemmas.List.{length-take}
use Rattle.tables.specs.Gate.{drawn, material, zero_labels}
use Rattle.material.specs.Size.{labels_of}
use Rattle.labels.specs.Words.{word_at}
use Rattle.labels.specs.Lists.{places}
use Rattle.tables.specs.Table.{made}
use Rattle.tables.proofs.Gating.{material_by}
use Rattle.tables.proofs.Hot.{two_fit}
use Rattle.tables.proofs.Numbering.{fits_eight}
use Rattle.tables.proofs.Packing.{listed_all}
use Rattle.tables.proofs.Running.{ran_then}
use Rattle.tables.proofs.gate.garble_uncleared.Goals as goal

pub returns : goal.returns
returns g c =
    let K = g.L.Label.kind in
    let F = g.H.LabelHash.means c.args.h.now in
    let G = g.H.LabelHash.means c.draw.new.h in
    let gate = c.args.gate in
    let Δ = c.args.offset in
    let A = places K c.args.zeros.now in
    let row = word_at c.args.rows.now in
    let n = length c.args.zeros.now in
    let m = length c.args.new.now in
    let s = c.low_bits-s.result in
    let ef : G ≡ F = c.draw.ensures.kept in
    let es : s ≡ drawn K F gate n m c.args.seed = c.low_bits-s.ensures ∙ ap (K.low m) c.draw.ensures.answer in
    let two = two_fit n (omega arith) in
    let ew : (1 * 2 ^ n) % 2 ^ 64 ≡ 2 ^ n = one_shl n 64 (omega arith) in
    let eight = fits_eight n (omega arith) in
    let long : length c.garble_labels.new.fs ≡ 2 ^ n = c.garble_labels.auto.fs ∙ length-take (1 * 2 ^ n % 2 ^ 64) (replicate 256 0) ∙ omega arith in
    let made_of = c.garble_labels.ensures in
    let eT = ap (λ w. labels_of n m * w) c.width.ensures in
    let ran = ran_then F G _ _ _ _ 1 _ (3 * 2 ^ n - 3 + 2 * (n * m)) (record { kept = ef; count = c.draw.ensures.count }) made_of.ran (omega arith) in
    record {
      material =
          material_by K G gate n m s Δ A row _ _ _ c.garble_labels.new.material c.pack.new.bytes (λ i. get_or c.garble_labels.new.fs i 0)
          eT (omega arith) made_of.hots made_of.masks c.pack.ensures long made_of.turns
          ∙ (λ i. material K (ef i) gate n m (es i) Δ A row);
      news =
          listed_all (made K G gate m n s Δ A row) c.garble_labels.new.new K.zero m (omega arith) made_of.news
          ∙ (λ i. zero_labels K (ef i) gate n m (es i) Δ A row);
      kept = ran.kept;
      count = ran.count;
    }
