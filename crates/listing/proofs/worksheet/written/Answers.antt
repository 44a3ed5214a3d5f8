use Rattle.std.proofs.Common.{ℕ, ◌<◌, length, sym, ap, ◌∙◌, subst}
use Rattle.std.proofs.lemmas.Result.{IfOk-weaker}
use Rattle.listing.proofs.Sheets.{sheet_same}
use Rattle.listing.proofs.worksheet.written.Goals as goal

pub returns : goal.returns
returns c =
    let bits = c.as_slice.result.now in
    let items = c.as_slice.ensures.value in
    IfOk-weaker c.sheet_text.result _ _
    (λ t e. e ∙ sheet_same c.args.p.circuit.now c.args.p.seed.now c.args.p.bits.now c.args.lent.now c.requires.done.0 c.requires.done.1 c.offset_of.result bits c.offset_of.ensures
    (ap length items ∙ c.in_ok-bits.ensures.long ∙ c.requires.zeros) c.requires.outputs
    (λ w l. rw items (c.in_ok-bits.ensures.bits w (subst (λ (n : ℕ). w < n) (sym c.requires.zeros) l))))
    c.sheet_text.ensures
