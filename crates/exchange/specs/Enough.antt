-- As much memory as a whole settlement asks for, and no more. Assumes nothing.
use Rattle.std.specs.Prelude.{◌≡◌, ℕ, List, length}
use Rattle.labels.specs.Kind.{Kind}
use Rattle.circuit.specs.Parts.{parts_of}
use Rattle.circuit.specs.Gates.{wires_in}
use Rattle.circuit.specs.Check.{bytes_in}
use Rattle.settlement.specs.declared.call.Call.{Call}
use Rattle.settlement.specs.declared.line.Line.{Line}

pub record Enough {L : Type 0} (K : Kind L) (bytes copy : List ℕ) (zeros labels sent scratch : List L) (material colours outputs : List ℕ) (calls : List Call) (lines : List (Line L)) : Type 0 where
  pub copy_long : length copy ≡ length bytes
  pub zeros_long : length zeros ≡ wires_in (parts_of bytes)
  pub labels_long : length labels ≡ wires_in (parts_of bytes)
  pub sent_long : length sent ≡ 256
  pub scratch_long : length scratch ≡ 256
  pub material_long : length material ≡ bytes_in K (parts_of bytes) (parts_of bytes).sizes.gates
  pub colours_long : length colours ≡ (parts_of bytes).sizes.outputs
  pub outputs_long : length outputs ≡ (parts_of bytes).sizes.outputs
  pub lines_long : length lines ≡ length calls
