-- A settlement that is planned to be whole: new sides, a circuit that passes with a bit for each input, its calls, and as much memory as it asks for. Assumes nothing.
use Rattle.std.specs.Prelude.{◌≡◌, ℕ, List, None, Option}
use Rattle.labels.specs.Kind.{Kind}
use Rattle.circuit.specs.Parts.{Parts, parts_of}
use Rattle.circuit.specs.Gates.{wires_in}
use Rattle.circuit.specs.Check.{bytes_in}
use Rattle.plain.specs.Plain.{bits_refusal}
use Rattle.labels.specs.Lists.{listed}
use Rattle.parties.specs.declared.side.Side.{Side}
use Rattle.parties.specs.Side.{unused}
use Rattle.parties.specs.Refusing.{open_refusal}
use Rattle.circuit.specs.Refusals.{or_else}
use Rattle.circuit.specs.declared.refusal.Refusal.{Refusal}
use Rattle.settlement.specs.declared.call.Call.{Call}
use Rattle.settlement.specs.declared.lent.Lent.{Lent}
use Rattle.settlement.specs.declared.line.Line.{Line}
use Rattle.exchange.specs.Course.{calls_in, course}
use Rattle.exchange.specs.Enough.{Enough}

-- the first refusal of a whole settlement: that of a plain evaluation, and then that of opening, with memory enough
abbrev pub whole_refusal : {L : Type 0} → Kind L → (L → ℕ → L) → List ℕ → List ℕ → List ℕ → Option Refusal
whole_refusal K F bytes seed bits =
    or_else (bits_refusal bytes bits)
    (open_refusal unused bytes K F (wires_in (parts_of bytes)) seed)

-- the calls of a whole settlement
abbrev pub calls_of : {L : Type 0} → Kind L → Parts → List ℕ → List Call
calls_of K c bits = listed (calls_in c.sizes) (course c.sizes (bytes_in K c c.sizes.gates) bits)

pub record Planned {L : Type 0} (K : Kind L) (bytes bits copy : List ℕ) (garbler evaluator : Side) (lent : Lent L) (calls : List Call) (lines : List (Line L)) : Type 0 where
  pub garbler_new : garbler ≡ unused
  pub evaluator_new : evaluator ≡ unused
  pub accepted : bits_refusal bytes bits ≡ None
  pub calls_are : calls ≡ calls_of K (parts_of bytes) bits
  pub enough : Enough K bytes copy lent.zeros.now lent.labels.now lent.sent.now lent.scratch.now lent.material.now lent.colours.now lent.outputs.now calls lines
