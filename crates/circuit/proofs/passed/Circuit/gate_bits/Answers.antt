use Rattle.circuit.specs.Lent.{parts_in}
use Rattle.circuit.proofs.Checks.{gate_shape, each_passes}
use Rattle.circuit.proofs.Shapes.{shape_known}
use Rattle.circuit.proofs.passed.Circuit.gate_bits.Goals as goal

pub form_bits-requires-clause-known : goal.form_bits-requires-clause-known
form_bits-requires-clause-known g c =
    let a = c.args.self.arrays in
    let here = shape_known (parts_in a) c.args.g (gate_shape (parts_in a) c.args.g (each_passes (parts_in a) a.sizes.gates c.args.self.gates_pass c.args.g c.requires)) in
    rw (c.word_at.ensures, c.from.ensures) here
