use Rattle.std.proofs.Common.{refl, rules}
use Rattle.hashes.specs.Draws.{input_zero}
use Rattle.wires.proofs.Growth.{filled_of}
use Rattle.memory.proofs.Starting.{open_zeros}
use Rattle.memory.proofs.start.open_wires.Goals as goal

pub returns : goal.returns
returns g c =
    let F = g.H.LabelHash.means c.args.h.now in
    record {
      filled = filled_of refl (search rules)
          (open_zeros c.args.inputs c.args.total c.from.result c.from-2.result (input_zero F c.args.seed) g.L.Label.kind.zero c.args.wires.now c.clear.new.labels c.new-store.result.values.now c.draw_inputs.new.wires.values.now
          c.from.ensures c.from-2.ensures c.requires.within c.requires.room c.clear.ensures c.new-store.ensures.values c.draw_inputs.ensures.filled);
      kept = c.draw_inputs.ensures.kept;
      count = c.draw_inputs.ensures.count;
    }
