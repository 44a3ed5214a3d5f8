use Rattle.std.proofs.Common.{◌≡◌, ℕ, ◌-◌, List, ◌++◌, get_or, string_bytes, ap, ◌∙◌, add-one, arith}
use Rattle.std.proofs.lemmas.List.{append_assoc}
use Rattle.listing.specs.Hex.{hex_byte, hex_bytes}
use Rattle.listing.specs.Calls.{hex_long}
use Rattle.listing.proofs.calls.add_long.Goals as goal

pub loop-k-preserved : goal.loop-k-preserved
loop-k-preserved c =
    let k : ℕ = c.loop-k.k in
    let bs : List ℕ = c.write.new.out in
    let f : ℕ → ℕ = λ j. get_or bs (15 - j) 0 in
    rw (add-one k) (c.in_ok-add_byte.ensures ∙ ap (λ (xs : List ℕ). xs ++ hex_byte (f k)) c.loop-k.invariant ∙ append_assoc (string_bytes c.args.text.now) (hex_bytes f k) (hex_byte (f k)))

pub returns : goal.returns
unfolding hex_long
returns c =
    let e : c.loop-k.k ≡ 16 = omega (arith, c.loop-k-test.false, c.loop-k.auto.k-end) in
    c.loop-k.invariant
    ∙ ap (λ (n : ℕ). string_bytes c.args.text.now ++ hex_bytes (λ j. get_or c.write.new.out (15 - j) 0) n) e
    ∙ ap (λ (bs : List ℕ). string_bytes c.args.text.now ++ hex_bytes (λ j. get_or bs (15 - j) 0) 16) c.write.ensures
