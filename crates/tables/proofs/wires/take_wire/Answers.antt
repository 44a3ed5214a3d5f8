use Rattle.tables.proofs.Buckets.{wire_taken, sorted_next}
use Rattle.tables.proofs.wires.take_wire.Goals as goal

pub returns : goal.returns
returns g c =
    let K = g.L.Label.kind in
    let t = c.args.buckets.now in
    let u = c.take_bit.new.buckets in
    let j = c.args.j in record {
      answer = λ w p V s. wire_taken K w p V j t u c.requires.small s _ c.take_bit.ensures.answer;
      left = λ w p V s. sorted_next K w p V j t u c.requires.small s c.take_bit.ensures.folded c.take_bit.ensures.others;
    }
