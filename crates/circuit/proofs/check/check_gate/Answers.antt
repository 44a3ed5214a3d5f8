use Rattle.std.proofs.Common.{sym, ◌∙◌, arith}
use Rattle.circuit.specs.Parts.{Parts}
use Rattle.circuit.specs.Lent.{parts_in}
use Rattle.circuit.proofs.GateParts.{gate_ordered, gate_rows, made_after}
use Rattle.circuit.proofs.Checks.{too_many, not_made, wide_row, gate_passes}
use Rattle.circuit.proofs.check.check_gate.Goals as goal

pub returns-then-after-gt1024 : goal.returns-then-after-gt1024
returns-then-after-gt1024 c =
    let p : Parts = parts_in c.args.a in
    let e = c.in_ok-gate.ensures in
    let a = made_after p c.args.g c.in_ok-gate.gate _ _ e.1 c.requires.before c.makes.ensures in
    too_many p c.args.g _ e.0 a c.if-after-gt1024.true

pub returns-then-not-reads_made : goal.returns-then-not-reads_made
returns-then-not-reads_made c =
    let p : Parts = parts_in c.args.a in
    let e = c.in_ok-gate.ensures in
    let a = made_after p c.args.g c.in_ok-gate.gate _ _ e.1 c.requires.before c.makes.ensures in
    let o = gate_ordered p c.args.g c.in_ok-gate.gate c.args.made _ e.1 c.requires.before c.if-not-reads_made.ensures in
    not_made p c.args.g _ e.0 a (omega arith) o

pub returns-then-not-rows_fit : goal.returns-then-not-rows_fit
returns-then-not-rows_fit c =
    let p : Parts = parts_in c.args.a in
    let e = c.in_ok-gate.ensures in
    let a = made_after p c.args.g c.in_ok-gate.gate _ _ e.1 c.requires.before c.makes.ensures in
    let o = gate_ordered p c.args.g c.in_ok-gate.gate c.args.made _ e.1 c.requires.before c.if-not-reads_made.ensures in
    wide_row p c.args.g _ e.0 a (omega arith) o (sym (c.if-not-rows_fit.ensures ∙ gate_rows p c.args.g c.in_ok-gate.gate e.1))

pub returns : goal.returns
returns c =
    let p : Parts = parts_in c.args.a in
    let e = c.in_ok-gate.ensures in
    let a = made_after p c.args.g c.in_ok-gate.gate _ _ e.1 c.requires.before c.makes.ensures in
    let o = gate_ordered p c.args.g c.in_ok-gate.gate c.args.made _ e.1 c.requires.before c.if-not-reads_made.ensures in (
      gate_passes p c.args.g _ e.0 a (omega arith) o (sym (c.if-not-rows_fit.ensures ∙ gate_rows p c.args.g c.in_ok-gate.gate e.1)),
      a,
      omega arith,
    )
