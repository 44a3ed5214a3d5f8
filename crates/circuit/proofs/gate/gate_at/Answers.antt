use Rattle.std.proofs.Common.{◌≡◌, length, ap, ◌∙◌, arith, rules}
use Rattle.std.proofs.lemmas.Result.{err_from_is_err_and}
use Rattle.circuit.specs.Lent.{parts_in}
use Rattle.circuit.specs.Gates.{form_of, place_of}
use Rattle.circuit.proofs.Stretches.{length_part}
use Rattle.circuit.proofs.Wholes.{whole_in}
use Rattle.circuit.proofs.Shapes.{simple_past, simple_fits}
use Rattle.circuit.proofs.gate.gate_at.Goals as goal

pub returns-in_err-operands : goal.returns-in_err-operands
returns-in_err-operands c =
    let ef : c.word_at-form.result ≡ form_of (parts_in c.args.a) c.args.g = search rules in
    let ep : c.word_at-place.result ≡ place_of (parts_in c.args.a) c.args.g = search rules in
    let p = err_from_is_err_and c.from_residual.result c.from_residual.ensures.1 in
    let e = c.in_err-operands.ensures in
    rw (p.1, p.2, e.0) (simple_past (parts_in c.args.a) c.args.g c.word_at-form.result c.word_at-place.result ef ep (whole_in c.args.a) (omega arith) e.1)

pub returns-then-form-eq0 : goal.returns-then-form-eq0
returns-then-form-eq0 c =
    let ef : c.word_at-form.result ≡ form_of (parts_in c.args.a) c.args.g = search rules in
    let ep : c.word_at-place.result ≡ place_of (parts_in c.args.a) c.args.g = search rules in
    let s = c.in_ok-operands.ensures in
    (simple_fits (parts_in c.args.a) c.args.g c.word_at-form.result c.word_at-place.result ef ep (whole_in c.args.a) (omega arith) s.0, (omega arith, (cc), (ap length s.1 ∙ length_part c.word_at-place.result 2 c.args.a.operands.now s.0)))

pub returns-else-form-eq0 : goal.returns-else-form-eq0
returns-else-form-eq0 c =
    let ef : c.word_at-form.result ≡ form_of (parts_in c.args.a) c.args.g = search rules in
    let ep : c.word_at-place.result ≡ place_of (parts_in c.args.a) c.args.g = search rules in
    let s = c.in_ok-operands.ensures in
    (simple_fits (parts_in c.args.a) c.args.g c.word_at-form.result c.word_at-place.result ef ep (whole_in c.args.a) (omega arith) s.0, (omega arith, (cc), (ap length s.1 ∙ length_part c.word_at-place.result 2 c.args.a.operands.now s.0)))
