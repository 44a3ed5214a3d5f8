use Rattle.std.proofs.Common.{◌≡◌, true, false, eqb, sym, ap, ◌∙◌}
use Rattle.circuit.specs.Parts.{Parts}
use Rattle.circuit.specs.Gates.{wires_in}
use Rattle.circuit.specs.Lent.{parts_in}
use Rattle.parties.specs.Turns.{same_sizes, is_its}
use Rattle.parties.proofs.progress.Progress.is_its_own.Goals.{then-eq, else-eq}
use Rattle.parties.proofs.progress.Progress.is_its_own.Goals as goal

pub returns-then-self-c-clause-answer : goal.returns-then-self-c-clause-answer
unfolding is_its
returns-then-self-c-clause-answer c =
    let s = c.args.self.now.side in
    let p : Parts = parts_in c.args.c.arrays in
    elim c.if-eq.branch [
      | then-eq w ↦ (
          let sizes : same_sizes s.sizes p.sizes ≡ true = sym c.eq.ensures ∙ w.if-eq.true in
          let wires : eqb s.wires (wires_in p) ≡ true = ap (eqb s.wires) (sym c.args.c.counted) ∙ sym w.value-is ∙ c.if-self-c.true in
          rw (sizes, wires) (ap (eqb s.made) (c.from.ensures ∙ c.wires_before.ensures)))
      | else-eq w ↦ (let no : false ≡ true = sym w.if-eq.false ∙ sym w.value-is ∙ c.if-self-c.true in cc)
    ]

pub returns-else-self-c-clause-answer : goal.returns-else-self-c-clause-answer
unfolding is_its
returns-else-self-c-clause-answer c =
    let s = c.args.self.now.side in
    let p : Parts = parts_in c.args.c.arrays in
    elim c.if-eq.branch [
      | then-eq w ↦ (
          let sizes : same_sizes s.sizes p.sizes ≡ true = sym c.eq.ensures ∙ w.if-eq.true in
          let wires : eqb s.wires (wires_in p) ≡ false = ap (eqb s.wires) (sym c.args.c.counted) ∙ sym w.value-is ∙ c.if-self-c.false in
          rw (sizes, wires) c.if-self-c.false)
      | else-eq w ↦ (let sizes : same_sizes s.sizes p.sizes ≡ false = sym c.eq.ensures ∙ w.if-eq.false in rw sizes c.if-self-c.false)
    ]
