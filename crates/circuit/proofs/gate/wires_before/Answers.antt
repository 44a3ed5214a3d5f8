use Rattle.std.proofs.Common.{◌≡◌, suc, ◌≤◌, ◌∙◌, add-one, arith}
use Rattle.circuit.specs.Parts.{Parts}
use Rattle.circuit.specs.Forms.{makes}
use Rattle.circuit.specs.Gates.{form_of, made_before, wires_in}
use Rattle.circuit.specs.Lent.{parts_in}
use Rattle.circuit.proofs.GateParts.{made_within}
use Rattle.circuit.proofs.gate.wires_before.Goals as goal

pub overflow_add-made : goal.overflow_add-made
overflow_add-made c =
    let p : Parts = parts_in c.args.a in
    let here : c.form_makes-made.result ≡ makes (form_of p c.loop-k.k) = c.form_makes-made.ensures ∙ cc in
    let most : made_before p (suc c.loop-k.k) ≤ wires_in p = made_within p (suc c.loop-k.k) (omega arith) in
    omega arith

pub loop-k-preserved : goal.loop-k-preserved
loop-k-preserved c =
    let p : Parts = parts_in c.args.a in
    let here : c.form_makes-made.result ≡ makes (form_of p c.loop-k.k) = c.form_makes-made.ensures ∙ cc in
    rw (add-one c.loop-k.k) (omega arith)
