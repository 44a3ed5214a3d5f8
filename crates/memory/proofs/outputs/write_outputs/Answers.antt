use Rattle.std.proofs.Common.{Bool, eqb, length, get_or, ap, ◌∙◌, arith}
use Rattle.labels.specs.Kind.{differs}
use Rattle.labels.specs.Numbers.{digit}
use Rattle.labels.specs.Words.{word_at}
use Rattle.circuit.proofs.Bounds.{each_below}
use Rattle.tables.proofs.Filling.{there_first}
use Rattle.tables.proofs.Packing.{listed_all}
use Rattle.memory.specs.Outputs.{decoded_at}
use Rattle.memory.proofs.outputs.write_outputs.Goals as goal

pub output_colour-requires : goal.output_colour-requires
output_colour-requires g c =
    let b = each_below (word_at c.args.list.now) _ _ c.requires.order c.loop-o.o (omega arith) in
    record { there = omega arith; order = b }

pub loop-o-preserved : goal.loop-o-preserved
loop-o-preserved g c =
    there_first 0 c.loop-o.o (decoded_at g.L.Label.kind c.args.wires.now c.args.list.now c.args.colours.now) c.loop-o.outputs _ c.loop-o.invariant (omega arith)
    (c.decoded_bit.ensures ∙ ap (λ (b : Bool). digit (differs b (eqb (get_or c.args.colours.now c.loop-o.o 0) 1))) c.output_colour.ensures)

pub returns : goal.returns
returns g c =
    listed_all (decoded_at g.L.Label.kind c.args.wires.now c.args.list.now c.args.colours.now) c.loop-o.outputs 0 (length c.args.outputs.now) (omega arith)
    (λ k l. c.loop-o.invariant k (omega arith))
