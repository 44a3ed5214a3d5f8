-- New memory for a whole settlement, on the heap. Assumes nothing.
use Rattle.std.specs.Prelude.{◌≡◌, ℕ, List, None}
use Rattle.labels.specs.Kind.{Kind}
use Rattle.circuit.specs.Parts.{parts_of}
use Rattle.plain.specs.Plain.{bits_refusal}
use Rattle.exchange.specs.Enough.{Enough}
use Rattle.exchange.specs.Planned.{calls_of}
use Rattle.exchange.specs.declared.room.Room.{Room}

-- nothing stands against a plain evaluation, and there is as much as the circuit asks for, with the seed and the calls
pub record Furnished {L : Type 0} (K : Kind L) (bytes seed bits : List ℕ) (m : Room L) : Type 0 where
  pub accepted : bits_refusal bytes bits ≡ None
  pub seed_is : m.seed.items ≡ seed
  pub calls_are : m.calls.items ≡ calls_of K (parts_of bytes) bits
  pub enough : Enough K bytes m.copy.items m.zeros.items m.labels.items m.sent.items m.scratch.items m.material.items m.colours.items m.outputs.items m.calls.items m.lines.items
