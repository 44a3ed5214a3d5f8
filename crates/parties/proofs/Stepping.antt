-- One gate further. Assumes nothing.
use Rattle.std.proofs.Common.{◌≡◌, ℕ, suc, ◌≤◌, arith}
use Rattle.labels.specs.Kind.{Kind}
use Rattle.circuit.specs.Gates.{made_before}
use Rattle.circuit.specs.Lent.{parts_in}
use Rattle.circuit.specs.declared.passed.Circuit.{Circuit}
use Rattle.circuit.proofs.GateParts.{made_within}
use Rattle.parties.specs.declared.side.Side.{Side}
use Rattle.parties.specs.Ready.{StepReady}

-- the wires once the side's next gate is made
pub made_few : {L : Type 0} (K : Kind L) (s : Side) (circuit : Circuit) (bits wires scratch material made : ℕ) → StepReady K s (parts_in circuit.arrays) bits wires scratch material → made ≡ made_before (parts_in circuit.arrays) (suc s.next) → made ≤ 1024
made_few K s circuit bits wires scratch material made r e =
    let l = made_within (parts_in circuit.arrays) (suc s.next) r.there in
    let most = r.most in
    omega arith
