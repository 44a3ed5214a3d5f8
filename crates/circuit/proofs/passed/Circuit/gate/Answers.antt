use Rattle.circuit.specs.Lent.{parts_in}
use Rattle.circuit.proofs.Checks.{gate_shape, each_passes}
use Rattle.circuit.proofs.passed.Circuit.gate.Goals as goal

pub passed_gate-requires-clause-passed : goal.passed_gate-requires-clause-passed
passed_gate-requires-clause-passed c =
    let a = c.args.self.arrays in
    gate_shape (parts_in a) c.args.g (each_passes (parts_in a) a.sizes.gates c.args.self.gates_pass c.args.g c.requires)
