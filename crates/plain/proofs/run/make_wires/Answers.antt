use Rattle.std.proofs.Common.{◌≡◌, ℕ, suc, ◌<◌, None, sym, refl, ◌∙◌, subst, add-one, arith}
use Rattle.circuit.specs.Parts.{Parts}
use Rattle.circuit.specs.Gates.{made_before}
use Rattle.circuit.specs.Check.{gate_refusal}
use Rattle.circuit.specs.Lent.{parts_in}
use Rattle.plain.specs.Plain.{bit_in, plain_rule}
use Rattle.wires.specs.Wires.{Filled, wire_after}
use Rattle.circuit.proofs.Checks.{each_passes, gate_shape, gate_in_order}
use Rattle.circuit.proofs.Shapes.{shape_known}
use Rattle.circuit.proofs.GateParts.{gate_ordered, made_after, gate_shaped, made_within}
use Rattle.plain.proofs.Plains.{plain_more}
use Rattle.plain.proofs.run.make_wires.Goals as goal

pub plain_gate-requires : goal.plain_gate-requires
plain_gate-requires c =
    let p : Parts = parts_in c.args.c.arrays in
    let g : ℕ = c.loop-g.g in
    let lt : g < c.args.c.arrays.sizes.gates = omega arith in
    let pass : gate_refusal p g ≡ None = each_passes p c.args.c.arrays.sizes.gates c.args.c.gates_pass g lt in
    let i = c.loop-g.invariant in
    let after = made_after p g c.gate.result _ _ c.gate.ensures i.0 refl in
    let most = made_within p (suc g) (omega arith) in
    let all = c.args.c.counted in
    let long = i.1.long ∙ c.take_inputs.ensures.filled.long in
    record {
      shaped = gate_shaped p g c.gate.result c.gate.ensures;
      order = sym (gate_ordered p g c.gate.result _ _ c.gate.ensures i.0 refl) ∙ gate_in_order p g pass;
      room = omega arith;
    }

pub loop-g-preserved : goal.loop-g-preserved
loop-g-preserved c =
    let p : Parts = parts_in c.args.c.arrays in
    let g : ℕ = c.loop-g.g in
    let lt : g < c.args.c.arrays.sizes.gates = omega arith in
    let pass : gate_refusal p g ≡ None = each_passes p c.args.c.arrays.sizes.gates c.args.c.gates_pass g lt in
    let i = c.loop-g.invariant in
    let after = made_after p g c.gate.result _ _ c.gate.ensures i.0 refl in
    let more = plain_more p (bit_in c.args.bits.now) g c.loop-g.wires.made c.gate.result _ _ _ c.gate.ensures (shape_known p g (gate_shape p g pass)) (gate_in_order p g pass) i.0 i.1 c.plain_gate.ensures.grown in
    rw (add-one g) (
      (c.plain_gate.ensures.made ∙ after),
      subst (λ (n : ℕ). Filled n (wire_after (made_before p) (plain_rule p) (bit_in c.args.bits.now) (suc g)) c.take_inputs.new.wires.values.now c.plain_gate.new.wires.values.now) (sym c.plain_gate.ensures.made) more,
      (c.plain_gate.ensures.same ∙ i.2),
    )
