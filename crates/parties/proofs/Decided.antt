-- The outputs of the side's own circuit. Assumes nothing.
use Rattle.std.proofs.Common.{◌≡◌, ℕ, ◌<◌, ◌≤◌, List, ap, ◌∙◌, arith}
use Rattle.labels.specs.Words.{word_at}
use Rattle.circuit.specs.Parts.{Parts}
use Rattle.circuit.specs.Gates.{output_of, wires_in}
use Rattle.circuit.specs.Passed.{Passed}
use Rattle.circuit.proofs.Bounds.{each_below, below_all}
use Rattle.circuit.proofs.Circuits.{outputs_pass}
use Rattle.parties.specs.declared.side.Side.{Side}
use Rattle.parties.specs.Turns.{Its}
use Rattle.parties.specs.Ready.{OutputsReady}

pub outputs_ready : (s : Side) (bytes : List ℕ) (c : Parts) (w wires colours : ℕ) → Passed bytes c w → Its s c w → w ≤ wires → colours ≡ s.sizes.outputs → OutputsReady s bytes c.outputs wires colours
outputs_ready s bytes c w wires colours p its room h =
    let o : s.sizes.outputs ≡ c.sizes.outputs = ap (λ z. z.outputs) its.sizes in
    let n : colours ≡ c.sizes.outputs = h ∙ o in
    let l = p.whole.outputs in
    let k = p.count in
    let all = each_below (output_of c) c.sizes.outputs (wires_in c) (outputs_pass bytes c w p) in
    record {
      list_is = ap (λ (q : Parts). q.outputs) p.parts;
      long = omega arith;
      count = h;
      order = below_all (word_at c.outputs) colours wires (λ i q. let b = all i (omega arith) in omega arith);
    }

-- an output's wire is there
pub output_there : (s : Side) (bytes : List ℕ) (c : Parts) (w wires output : ℕ) → Passed bytes c w → Its s c w → w ≤ wires → output < s.sizes.outputs → output_of c output < wires
output_there s bytes c w wires output p its room h =
    let o : s.sizes.outputs ≡ c.sizes.outputs = ap (λ z. z.outputs) its.sizes in
    let k = p.count in
    let b = each_below (output_of c) c.sizes.outputs (wires_in c) (outputs_pass bytes c w p) output (omega arith) in
    omega arith
