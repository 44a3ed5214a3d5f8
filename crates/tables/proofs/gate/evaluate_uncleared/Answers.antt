use Rattle.std.proofs.Common.{◌≡◌, ℕ, ◌+◌, ◌-◌, ◌*◌, ◌%◌, ◌^◌, ◌<◌, length, replicate, get_or, drop, sym, refl, ap, ◌∙◌, add-one, arith}
use Rattle.std.proofs.lemmas.Nat.{one_shl}
use Rattle.std.proofs.lemmas.List.{length-take, length-take-le, take_rest}
use Rattle.material.specs.Size.{labels_of}
use Rattle.tables.specs.Material.{row_at, unpacked, one_hot_rows, mask_rows, table_rows}
use Rattle.labels.specs.Lists.{places}
use Rattle.tables.specs.Table.{chosen, found, sum, taken}
use Rattle.tables.proofs.Gating.{gate_meets}
use Rattle.tables.proofs.Hot.{more_than, two_fit}
use Rattle.tables.proofs.Masks.{found_of, chosen_ext, shifted}
use Rattle.tables.proofs.Numbering.{fits_eight}
use Rattle.labels.proofs.Numbers.{two_pow}
use Rattle.tables.proofs.Packing.{listed_all}
use Rattle.tables.proofs.Running.{ran_then}
use Rattle.tables.proofs.gate.evaluate_uncleared.Goals as goal

pub choose-requires-clause-paired : goal.choose-requires-clause-paired
choose-requires-clause-paired g c =
    let n = length c.args.labels.now in
    let s = shifted n 8 (omega arith) (omega arith) in
    c.unpack.auto.fs ∙ length-take-le (1 * 2 ^ n % 2 ^ 64) (replicate 256 0) (omega arith) ∙ sym (length-take-le (1 * 2 ^ n % 2 ^ 64) c.args.scratch.now (omega arith)) ∙ sym c.evaluate_one_hot.auto.v

pub evaluate_levels-requires-clause-places : goal.evaluate_levels-requires-clause-places
evaluate_levels-requires-clause-places g c =
    let n = length c.args.labels.now in
    let s = shifted n 8 (omega arith) (omega arith) in
    let e : length c.evaluate_one_hot.new.v ≡ 2 ^ n = c.evaluate_one_hot.auto.v ∙ length-take-le (1 * 2 ^ n % 2 ^ 64) c.args.scratch.now (omega arith) ∙ s.is in
    omega arith

pub returns : goal.returns
returns g c =
    let K = g.L.Label.kind in
    let F = g.H.LabelHash.means c.args.h.now in
    let gate = c.args.gate in
    let n = length c.args.labels.now in
    let m = length c.args.new.now in
    let E = places K c.args.labels.now in
    let bytes = c.args.material.now in
    let R = one_hot_rows K bytes in
    let M = mask_rows K n m bytes in
    let T = table_rows K n m bytes in
    let f : ℕ → ℕ = λ i. get_or c.unpack.new.fs i 0 in
    let V = places K c.evaluate_one_hot.new.v in
    let ew : (1 * 2 ^ n) % 2 ^ 64 ≡ 2 ^ n = one_shl n 64 (omega arith) in
    let more = more_than n in
    let two = two_fit n (omega arith) in
    let p : 2 ^ (n + 1) ≡ 2 ^ n + 2 ^ n = ap (λ k. 2 ^ k) (add-one n) ∙ two_pow n in
    let eight = fits_eight n (omega arith) in
    let long : length c.unpack.new.fs ≡ 2 ^ n = c.unpack.auto.fs ∙ length-take (1 * 2 ^ n % 2 ^ 64) (replicate 256 0) ∙ omega arith in
    let ef : (i : ℕ) → i < 2 ^ n → f i ≡ T i =
    λ i l. c.unpack.ensures i (omega arith) ∙ ap (λ bs. unpacked m bs i) (take_rest bytes (labels_of n m * c.width.result)) ∙ ap (λ w. unpacked m (drop (labels_of n m * w) bytes) i) c.width.ensures in
    let places_long : length c.evaluate_one_hot.new.v ≡ 2 ^ n = c.evaluate_one_hot.auto.v ∙ length-take-le (1 * 2 ^ n % 2 ^ 64) c.args.scratch.now (omega arith) ∙ ew in
    let em : length c.choose.new.new ≡ m = c.choose.auto.new in
    let rows = ap (λ k. n * k) em in
    let all : (j : ℕ) → j < m → places K c.evaluate_levels.new.new j ≡ found K F gate m n R M T E j =
    λ j l. found_of K F _ gate m n j R M T E V _ _ c.evaluate_one_hot.ensures.ran.kept c.evaluate_one_hot.ensures.front
    (c.choose.ensures j l ∙ ap (λ k. chosen K j k f V) places_long ∙ chosen_ext K j (2 ^ n) f T V V ef (λ i h. refl))
    (c.evaluate_levels.ensures.news j (omega arith)
    ∙ ap (λ k. K.xor (places K c.choose.new.new j) (sum K n (λ d. taken K (g.H.LabelHash.means c.evaluate_one_hot.new.h) gate k n (λ d j. row_at K bytes (n - 1 + (d * k + j))) E V d j))) em) in
    let new = listed_all (found K F gate m n R M T E) c.evaluate_levels.new.new K.zero m (omega arith) all in
    let ran = ran_then _ _ _ _ _ _ _ _ (2 ^ (n + 1) - n - 2 + n * m) c.evaluate_one_hot.ensures.ran c.evaluate_levels.ensures.ran (omega arith) in
    record {
      news = new;
      meets = gate_meets K F gate n m bytes E _ (omega arith) new;
      kept = ran.kept;
      count = ran.count;
    }
