use Rattle.std.proofs.Common.{◌≡◌, Bool, true, false, length, refl, ap, ◌∙◌, arith}
use mir.Val.{bool_byte}
use Rattle.labels.specs.Numbers.{digit}
use Rattle.labels.specs.Words.{word_at}
use Rattle.circuit.proofs.Bounds.{each_below}
use Rattle.tables.proofs.Filling.{there_first}
use Rattle.tables.proofs.Packing.{listed_all}
use Rattle.memory.specs.Outputs.{colour_at}
use Rattle.memory.proofs.outputs.write_colours.Goals as goal

-- a bit as a byte
byte_is : (b : Bool) → bool_byte b ≡ digit b
byte_is true = refl
byte_is false = refl

pub output_colour-requires : goal.output_colour-requires
output_colour-requires g c =
    let b = each_below (word_at c.args.list.now) _ _ c.requires.order c.loop-o.o (omega arith) in
    record { there = omega arith; order = b }

pub loop-o-preserved : goal.loop-o-preserved
loop-o-preserved g c =
    there_first 0 c.loop-o.o (colour_at g.L.Label.kind c.args.wires.now c.args.list.now) c.loop-o.colours _ c.loop-o.invariant (omega arith)
    (c.from.ensures ∙ byte_is c.output_colour.result ∙ ap digit c.output_colour.ensures)

pub returns : goal.returns
returns g c =
    listed_all (colour_at g.L.Label.kind c.args.wires.now c.args.list.now) c.loop-o.colours 0 (length c.args.colours.now) (omega arith)
    (λ k l. c.loop-o.invariant k (omega arith))
