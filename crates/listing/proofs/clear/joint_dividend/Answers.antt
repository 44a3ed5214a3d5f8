use Rattle.std.proofs.Common.{ℕ, ◌≤◌, List, sym, ap, ◌∙◌, subst}
use Rattle.circuit.specs.Gates.{wires_in}
use Rattle.plain.specs.Plain.{Evaluated}
use Rattle.listing.proofs.clear.joint_dividend.Goals as goal

pub returns : goal.returns
returns c =
    let p = c.in_ok-c.ensures in
    record {
      evaluated = subst (λ (bits : List ℕ). Evaluated c.args.circuit.now bits c.args.wires.now c.plain.new.wires c.plain.new.outputs) c.input_bits-bits.ensures c.in_ok-plain.ensures;
      count = c.from.ensures ∙ p.count ∙ ap wires_in p.parts;
      few = subst (λ (n : ℕ). n ≤ 1024) (sym c.from.ensures) p.few;
      dividend_is = c.number_of_outputs.ensures;
    }
