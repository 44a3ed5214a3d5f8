use Rattle.std.proofs.Common.{◌/◌, ◌%◌, ◌≤◌, arith}
use Rattle.std.proofs.lemmas.Bool.Decides.{nat_tests}
use Rattle.material.proofs.Sizes.{few_bits}
use Rattle.circuit.proofs.forms.form_bits.Goals as goal

pub returns-in_default-clause-few : goal.returns-in_default-clause-few
returns-in_default-clause-few c =
    let inputs : c.args.form / 256 ≤ 8 = grind (arith, nat_tests, c.requires.known) in
    let outputs : c.args.form % 256 ≤ 16 = grind (arith, nat_tests, c.requires.known) in
    rw c.table_bits.ensures (few_bits c.args.kappa c.from.result c.from-in_default.result (omega arith) (omega arith) (omega arith))
