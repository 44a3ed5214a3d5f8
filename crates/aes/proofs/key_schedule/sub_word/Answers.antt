use Rattle.std.proofs.Common.{◌≡◌, ℕ, ◌<◌, get_or, refl, ◌∙◌, arith}
use Rattle.aes.specs.SBox.{s_box}
use Rattle.aes.specs.Bytes.{bytes4}
use Rattle.aes.specs.KeyExpansion.{sub_word}
use Rattle.std.proofs.lemmas.List.FromFn.{fill_by_all}
use Rattle.aes.proofs.key_schedule.sub_word.Goals as goal

pub returns : goal.returns
unfolding bytes4 sub_word
returns c =
    let ys = c.map.result in
    let each : (i : ℕ) → i < 4 → get_or ys i 0 ≡ s_box (get_or c.rows.result i 0) = λ i h. (c.map.ensures.items.at i 0 0 h).2.met.0 in
    let p = c.rows.ensures in
    let a = each 0 (omega arith) in
    let b = each 1 (omega arith) in
    let d = each 2 (omega arith) in
    let e = each 3 (omega arith) in
    c.column_of.ensures ∙ fill_by_all (λ (k : ℕ). get_or ys k 0) ys 4 0 c.map.ensures.items.long (λ k h. refl) ∙ simp (a, b, d, e, p)
