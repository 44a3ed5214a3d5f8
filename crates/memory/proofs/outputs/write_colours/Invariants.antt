use Rattle.std.proofs.Common.{◌≡◌, ℕ, ◌<◌, get_or}
use Rattle.memory.specs.Outputs.{colour_at}
use Rattle.memory.proofs.outputs.write_colours.Given as goal

abbrev pub invariant-loop-o : goal.invariant-loop-o
invariant-loop-o g l = (k : ℕ) → k < l.o → get_or l.colours k 0 ≡ colour_at g.L.Label.kind l.wires l.list k
