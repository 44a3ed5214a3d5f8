-- Settlements alike in all but secrets, and what a line shows. Assumes nothing.
use Rattle.std.specs.Prelude.{◌≡◌, ℕ, length, nat_lt}
use Rattle.circuit.specs.Parts.{Parts, parts_of}
use Rattle.settlement.specs.State.{State}
use Rattle.settlement.specs.Lines.{call_at, line_at, bare}
use Rattle.settlement.specs.Runs.{Settlement}
use Rattle.settlement.specs.declared.call.Call.{Call}
use Rattle.settlement.specs.declared.call.Call.TheVariants.{Garble, Encode, Deliver, Evaluate, Colours, Decode, Certify}

-- calls alike but for a bit 0 or 1
abbrev pub SameCall : Call → Call → Type 0
SameCall (Garble scratch material) d = d ≡ Garble scratch material
SameCall (Encode input bit) d = (y : ℕ) × (d ≡ Encode input y) × (nat_lt 1 y ≡ nat_lt 1 bit)
SameCall (Deliver input) d = d ≡ Deliver input
SameCall (Evaluate scratch) d = d ≡ Evaluate scratch
SameCall (Colours n) d = d ≡ Colours n
SameCall (Decode n) d = d ≡ Decode n
SameCall (Certify output) d = d ≡ Certify output

-- circuits alike in all but the row words
pub record SameButRows (c d : Parts) : Type 0 where
  pub sizes : d.sizes ≡ c.sizes
  pub forms : d.forms ≡ c.forms
  pub places : d.places ≡ c.places
  pub operands : d.operands ≡ c.operands
  pub outputs : d.outputs ≡ c.outputs

-- memories of the same lengths
pub record SameLengths {L : Type 0} (s t : State L) : Type 0 where
  pub zeros : length t.zeros ≡ length s.zeros
  pub labels : length t.labels ≡ length s.labels
  pub scratch : length t.scratch ≡ length s.scratch
  pub material : length t.material ≡ length s.material
  pub colours : length t.colours ≡ length s.colours
  pub outputs : length t.outputs ≡ length s.outputs

-- settlements alike in all but seeds, row words, bits 0 or 1 and what carries them
pub record Alike {L : Type 0} (r o : Settlement L) : Type 0 where
  pub circuit : SameButRows (parts_of r.circuit) (parts_of o.circuit)
  pub garbler_hash : o.garbler_hash ≡ r.garbler_hash
  pub evaluator_hash : o.evaluator_hash ≡ r.evaluator_hash
  pub garbler_came : o.garbler_came ≡ r.garbler_came
  pub evaluator_came : o.evaluator_came ≡ r.evaluator_came
  pub calls : (k : ℕ) → SameCall (call_at r.calls k) (call_at o.calls k)
  pub lengths : SameLengths (r.at 0) (o.at 0)

-- what line k shows, but for labels and bits: not made, refused why, or the lengths; and both counts
pub record SameLine {L : Type 0} (r o : Settlement L) (k : ℕ) : Type 0 where
  pub answer : bare (line_at o.lines k).answer ≡ bare (line_at r.lines k).answer
  pub garbler_count : (line_at o.lines k).garbler_count ≡ (line_at r.lines k).garbler_count
  pub evaluator_count : (line_at o.lines k).evaluator_count ≡ (line_at r.lines k).evaluator_count
