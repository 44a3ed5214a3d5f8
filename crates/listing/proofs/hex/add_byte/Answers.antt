use Rattle.std.proofs.Common.{ℕ, true, List, ◌++◌, string_bytes, ap, ◌∙◌, arith}
use Rattle.std.proofs.lemmas.Result.{on_ok_weaker}
use Rattle.std.proofs.lemmas.Fmt.{hex_byte as two_digits}
use Rattle.listing.proofs.hex.add_byte.Goals as goal

pub returns : goal.returns
returns c =
    on_ok_weaker c.write.result (λ e.
    let b = rw c.laid_out.ensures at e in
    let d = rw c.in_radix.ensures at b in
    d ∙ ap (λ (xs : List ℕ). string_bytes c.args.text.now ++ xs) (two_digits true c.args.byte (omega arith)))
    c.write.ensures.bytes
