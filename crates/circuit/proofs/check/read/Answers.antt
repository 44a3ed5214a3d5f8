use Rattle.std.proofs.Common.{◌≡◌, ℕ, ◌/◌, Bool, List, length, sym, ap, ◌∙◌}
use Rattle.std.proofs.lemmas.Result.{err_from_is_err_and}
use Rattle.labels.specs.Words.{word_at}
use Rattle.circuit.specs.Words.{all_below}
use Rattle.circuit.specs.Header.{within}
use Rattle.circuit.proofs.Circuits.{too_short, bad_size, cut_fails, gates_stopped, outputs_stopped, read_passes}
use Rattle.circuit.proofs.check.read.Goals as goal

-- the code's test of the outputs, at its number of wires
made_test : (outputs : List ℕ) {r : Bool} {v w : ℕ} → v ≡ w → r ≡ all_below (word_at outputs) (length outputs / 2) v → r ≡ all_below (word_at outputs) (length outputs / 2) w
made_test outputs e t = t ∙ ap (all_below (word_at outputs) (length outputs / 2)) e

pub returns-in_err-sizes : goal.returns-in_err-sizes
returns-in_err-sizes c =
    let p = err_from_is_err_and c.from_residual.result c.from_residual.ensures.1 in
    let e = c.in_err-sizes.ensures in
    rw (p.1, p.2, e.0) (too_short c.args.circuit.now e.1)

pub returns-then-not-within_limits : goal.returns-then-not-within_limits
returns-then-not-within_limits c =
    let e = c.in_ok-sizes.ensures in
    bad_size c.args.circuit.now e.0 (sym (c.if-not-within_limits.ensures ∙ ap within e.1))

pub returns-in_err-arrays : goal.returns-in_err-arrays
returns-in_err-arrays c =
    let p = err_from_is_err_and c.from_residual-in_err-arrays.result c.from_residual-in_err-arrays.ensures.1 in
    let e = c.in_ok-sizes.ensures in
    let f = c.in_err-arrays.ensures in
    rw (p.1, p.2, f.0) (cut_fails c.args.circuit.now _ _ e.0 e.1 e.2 (sym c.if-not-within_limits.ensures) f.1)

pub returns-in_err-wires : goal.returns-in_err-wires
returns-in_err-wires c =
    let p = err_from_is_err_and c.from_residual-in_err-wires.result c.from_residual-in_err-wires.ensures.1 in
    let e = c.in_ok-sizes.ensures in
    let b = c.in_ok-arrays.ensures in
    rw (p.1, p.2) (gates_stopped c.args.circuit.now _ _ e.0 e.1 e.2 (sym c.if-not-within_limits.ensures) c.in_ok-arrays.arrays b _ c.in_err-wires.ensures)

pub returns-then-not-words_below : goal.returns-then-not-words_below
returns-then-not-words_below c =
    let e = c.in_ok-sizes.ensures in
    let b = c.in_ok-arrays.ensures in
    let w = c.in_ok-wires.ensures in
    outputs_stopped c.args.circuit.now _ _ e.0 e.1 e.2 (sym c.if-not-within_limits.ensures) c.in_ok-arrays.arrays b c.in_ok-wires.wires w.0 w.1 (made_test c.in_ok-arrays.arrays.outputs.now c.from.ensures c.if-not-words_below.ensures)

pub returns : goal.returns
returns c =
    let e = c.in_ok-sizes.ensures in
    let b = c.in_ok-arrays.ensures in
    let w = c.in_ok-wires.ensures in
    read_passes c.args.circuit.now _ _ e.0 e.1 e.2 (sym c.if-not-within_limits.ensures) c.in_ok-arrays.arrays b c.in_ok-wires.wires w.0 w.1 (made_test c.in_ok-arrays.arrays.outputs.now c.from.ensures c.if-not-words_below.ensures) w.2
