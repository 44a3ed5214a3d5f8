-- A furnished room, once its memory is lent, is what a whole settlement asks for. Assumes nothing.
use Rattle.std.proofs.Common.{◌≡◌, ℕ, List, length, Some, None, Option, sym, ap, ◌∙◌}
use Rattle.labels.specs.Kind.{Kind}
use Rattle.circuit.specs.Parts.{parts_of}
use Rattle.circuit.specs.Gates.{wires_in}
use Rattle.circuit.specs.Refusals.{or_else}
use Rattle.circuit.specs.declared.refusal.Refusal.{Refusal}
use Rattle.plain.specs.Plain.{bits_refusal}
use Rattle.parties.specs.declared.side.Side.{Side}
use Rattle.parties.specs.Side.{unused}
use Rattle.parties.specs.Refusing.{open_refusal}
use Rattle.settlement.specs.declared.call.Call.{Call}
use Rattle.settlement.specs.declared.lent.Lent.{Lent}
use Rattle.settlement.specs.declared.line.Line.{Line}
use Rattle.exchange.specs.Furnished.{Furnished}
use Rattle.exchange.specs.Planned.{whole_refusal, Planned}
use Rattle.exchange.specs.declared.room.Room.{Room}

-- the loans are the room's memories
pub record Loans {L : Type 0} (m : Room L) (lent : Lent L) : Type 0 where
  pub zeros : lent.zeros.now ≡ m.zeros.items
  pub labels : lent.labels.now ≡ m.labels.items
  pub sent : lent.sent.now ≡ m.sent.items
  pub scratch : lent.scratch.now ≡ m.scratch.items
  pub material : lent.material.now ≡ m.material.items
  pub colours : lent.colours.now ≡ m.colours.items
  pub outputs : lent.outputs.now ≡ m.outputs.items

pub planned : {L : Type 0} (K : Kind L) (bytes seed bits copy : List ℕ) (m : Room L) (garbler evaluator : Side) (lent : Lent L) (calls : List Call) (lines : List (Line L))
    → Furnished K bytes seed bits m → Loans m lent → garbler ≡ unused → evaluator ≡ unused → copy ≡ m.copy.items → calls ≡ m.calls.items → lines ≡ m.lines.items
    → Planned K bytes bits copy garbler evaluator lent calls lines
planned K bytes seed bits copy m garbler evaluator lent calls lines f loans eg ee ec ed el = record {
  garbler_new = eg;
  evaluator_new = ee;
  accepted = f.accepted;
  calls_are = ed ∙ f.calls_are;
  enough = record {
    copy_long = ap length ec ∙ f.enough.copy_long;
    zeros_long = ap length loans.zeros ∙ f.enough.zeros_long;
    labels_long = ap length loans.labels ∙ f.enough.labels_long;
    sent_long = ap length loans.sent ∙ f.enough.sent_long;
    scratch_long = ap length loans.scratch ∙ f.enough.scratch_long;
    material_long = ap length loans.material ∙ f.enough.material_long;
    colours_long = ap length loans.colours ∙ f.enough.colours_long;
    outputs_long = ap length loans.outputs ∙ f.enough.outputs_long;
    lines_long = ap length el ∙ f.enough.lines_long ∙ ap length (sym ed);
  };
}

-- what stands against a settlement whose circuit and bits are accepted
pub then_opening : {L : Type 0} (K : Kind L) (F : L → ℕ → L) (bytes seed bits : List ℕ) (o : Option Refusal) → bits_refusal bytes bits ≡ None
    → open_refusal unused bytes K F (wires_in (parts_of bytes)) seed ≡ o → whole_refusal K F bytes seed bits ≡ o
then_opening K F bytes seed bits o e f = ap (λ (p : Option Refusal). or_else p (open_refusal unused bytes K F (wires_in (parts_of bytes)) seed)) e ∙ f

pub at_first : {L : Type 0} (K : Kind L) (F : L → ℕ → L) (bytes seed bits : List ℕ) (why : Refusal) → bits_refusal bytes bits ≡ Some why
    → whole_refusal K F bytes seed bits ≡ Some why
at_first K F bytes seed bits why e = ap (λ (p : Option Refusal). or_else p (open_refusal unused bytes K F (wires_in (parts_of bytes)) seed)) e
