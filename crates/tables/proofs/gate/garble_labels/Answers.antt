use Rattle.std.proofs.Common.{◌≡◌, ℕ, ◌+◌, ◌-◌, ◌*◌, ◌^◌, ◌<◌, false, length, get_or, sym, refl, ap, ◌∙◌, arith}
use Rattle.labels.specs.Kind.{times}
use Rattle.labels.specs.Numbers.{bit}
use Rattle.labels.specs.Words.{word_at}
use Rattle.tables.specs.Level.{bases}
use Rattle.tables.specs.Material.{row_bytes}
use Rattle.labels.specs.Lists.{places}
use Rattle.tables.specs.Table.{colours, chosen, hot, turned, sum, given, mask_row}
use Rattle.tables.proofs.Hot.{two_fit}
use Rattle.tables.proofs.Mades.{mask_of, made_with, turned_of}
use Rattle.labels.proofs.Numbers.{number_below}
use Rattle.tables.proofs.Running.{ran_then}
use Rattle.tables.proofs.gate.garble_labels.Goals as goal

pub mask_table-requires-clause-within : goal.mask_table-requires-clause-within
mask_table-requires-clause-within g c =
    let K = g.L.Label.kind in
    let n = length c.args.zeros.now in
    let b = number_below n (λ k. K.colour (places K c.args.zeros.now k)) in
    let a = c.colours-alpha.ensures in
    omega arith

pub returns : goal.returns
returns g c =
    let K = g.L.Label.kind in
    let F = g.H.LabelHash.means c.args.h.now in
    let G₁ = g.H.LabelHash.means c.garble_one_hot.new.h in
    let G₂ = g.H.LabelHash.means c.pick_all.new.h in
    let gate = c.args.gate in
    let m = length c.args.new.now in
    let s = c.args.s in
    let Δ = c.args.offset in
    let A = places K c.args.zeros.now in
    let B = bases K Δ c.args.zeros.now in
    let n = length c.args.zeros.now in
    let V = places K c.garble_one_hot.new.v in
    let row = word_at c.args.rows.now in
    let f : ℕ → ℕ = λ i. get_or c.mask_table.new.fs i 0 in
    let f₁ : G₁ ≡ F = c.garble_one_hot.ensures.ran.kept in
    let f₂ : G₂ ≡ F = c.pick_all.ensures.ran.kept ∙ f₁ in
    let front : (i : ℕ) → i < 2 ^ n → V i ≡ hot K F gate Δ B n i = c.garble_one_hot.ensures.front in
    let turns : (i : ℕ) → i < 2 ^ n → f i ≡ turned K F gate m n s Δ B row (colours K n A) i =
    λ i l. turned_of K F G₁ gate m n s i _ _ _ Δ B row c.pick_all.new.nums f₁ c.colours-alpha.ensures c.pick_all.ensures.there (c.mask_table.ensures i (omega arith)) in
    let long : length c.garble_one_hot.new.v ≡ 2 ^ n = c.garble_one_hot.auto.v ∙ c.requires.hots in
    let two = two_fit n (omega arith) in
    let em : length c.start_wires.new.new ≡ m = c.start_wires.auto.new in
    let rows = ap (λ k. n * k) em in
    record {
      news = λ j l. made_with K F G₂ gate m n Δ B V f₂ front s j f (turned K F gate m n s Δ B row (colours K n A)) _ _ turns
          (c.start_wires.ensures j l ∙ ap (λ k. K.xor (times K (bit j s) Δ) (chosen K j k f V)) long)
          (c.garble_levels.ensures.news j (omega arith) ∙ ap (λ k. K.xor (places K c.start_wires.new.new j) (sum K n (λ d. given K G₂ gate k n Δ B V d false j))) em);
      hots = λ k l. c.garble_levels.ensures.before k l ∙ c.garble_one_hot.ensures.rows k l;
      masks = λ d l j h.
          ap (λ k. row_bytes K (n - 1 + (d * k + j)) c.garble_levels.new.material) (sym em) ∙ c.garble_levels.ensures.rows d l j (omega arith)
          ∙ ap (λ k. K.bytes (mask_row K G₂ gate k n Δ B V d j)) em ∙ ap K.bytes (mask_of K F G₂ gate m n Δ B V f₂ front d l j);
      turns = turns;
      ran = ran_then _ _ _ _ _ _ _ _ _ (ran_then _ _ _ _ _ _ _ _ _ c.garble_one_hot.ensures.ran c.pick_all.ensures.ran refl) c.garble_levels.ensures.ran (omega arith);
    }
