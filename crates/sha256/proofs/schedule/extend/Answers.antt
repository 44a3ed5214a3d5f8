use Rattle.std.proofs.Common.{◌≡◌, ℕ, ◌<◌, ◌≤◌, List, length, take, sym, refl, ap, ◌∙◌, arith, length-append, length-set}
use Rattle.std.proofs.lemmas.List.{take_all, take_at}
use Rattle.sha256.specs.Schedule.{extended}
use Rattle.sha256.proofs.Loops.{schedule_all, schedule_more}
use Rattle.sha256.proofs.schedule.extend.Goals as goal

pub loop-t-init : goal.loop-t-init
loop-t-init c = (refl, simp length-append (omega arith))

pub loop-t-preserved : goal.loop-t-preserved
loop-t-preserved c =
    let w = c.loop-t.w in
    let t = c.loop-t.t in
    let v = c.next.result in
    let h : t < length w = omega (arith, c.loop-t.invariant.1) in
    (schedule_more w t v h (omega arith) (omega arith) c.next.ensures ∙ c.loop-t.invariant.0, length-set w t v ∙ c.loop-t.invariant.1)

pub returns : goal.returns
returns c =
    let w = c.loop-t.w in
    let t64 : c.loop-t.t ≡ 64 = omega arith in
    let short : length w ≤ 64 = omega (arith, c.loop-t.invariant.1) in
    let grown : extended (take 64 w) 0 ≡ extended (take 16 _) 48 = rw t64 at c.loop-t.invariant.0 in
    let front = take_at c.copy_from_slice.new.self _ 16 c.copy_from_slice.ensures.len ∙ c.copy_from_slice.ensures.after in
    sym (take_all 64 w short) ∙ sym (schedule_all (take 64 w)) ∙ grown ∙ ap (λ (l : List ℕ). extended l 48) front
