use Rattle.std.proofs.Common.{◌≡◌}
use Rattle.hashes.specs.Draws.{input_zero}
use Rattle.tables.specs.Ran.{Ran}
use Rattle.wires.specs.Wires.{Filled}
use Rattle.memory.proofs.start.draw_inputs.Given as goal

abbrev pub invariant-loop-i : goal.invariant-loop-i
invariant-loop-i g l =
    let F = g.H.LabelHash.means l.initial.h in
    (l.wires.made ≡ l.i)
    × Filled l.i (input_zero F l.seed) l.initial.wires.values.now l.wires.values.now
    × (l.wires.values.ghost_name ≡ l.initial.wires.values.ghost_name)
    × Ran F (g.H.LabelHash.means l.h) (g.H.LabelHash.calls l.initial.h) (g.H.LabelHash.calls l.h) l.i
