use Rattle.std.proofs.Common.{◌≡◌, ◌-◌, length, take}
use Rattle.sha256.specs.Schedule.{extended}
use Rattle.sha256.proofs.schedule.extend.Given as goal

abbrev pub invariant-loop-t : goal.invariant-loop-t
invariant-loop-t l = (extended (take l.t l.w) (64 - l.t) ≡ extended (take 16 l.initial.w) 48) × (length l.w ≡ 64)
