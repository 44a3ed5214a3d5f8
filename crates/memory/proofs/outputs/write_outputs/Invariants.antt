use Rattle.std.proofs.Common.{◌≡◌, ℕ, ◌<◌, get_or}
use Rattle.memory.specs.Outputs.{decoded_at}
use Rattle.memory.proofs.outputs.write_outputs.Given as goal

abbrev pub invariant-loop-o : goal.invariant-loop-o
invariant-loop-o g l = (k : ℕ) → k < l.o → get_or l.outputs k 0 ≡ decoded_at g.L.Label.kind l.wires l.list l.colours k
