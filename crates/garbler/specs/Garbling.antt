-- What the garbler's accepted calls leave. Assumes nothing.
use Rattle.std.specs.Prelude.{◌≡◌, ℕ, ◌*◌, ◌≤◌, cond, List, length, replicate, ◌==◌}
use Rattle.labels.specs.Kind.{Kind, times}
use Rattle.hashes.specs.Count.{counted}
use Rattle.hashes.specs.Draws.{offset}
use Rattle.wires.specs.Wires.{Grown, Filled}
use Rattle.circuit.specs.Parts.{Parts}
use Rattle.circuit.specs.Forms.{makes}
use Rattle.circuit.specs.Gates.{form_of, wires_in}
use Rattle.circuit.specs.Material.{gate_bits, gate_bytes}
use Rattle.circuit.specs.Refusals.{number_of}
use Rattle.circuit.specs.declared.refusal.Refusal.{Refusal}
use Rattle.gates.specs.Bytes.{laid}
use Rattle.memory.specs.Start.{opened_wire}
use Rattle.steps.specs.Gate.{new_zeros, gate_material}
use Rattle.labels.specs.Lists.{places}
use Rattle.parties.specs.declared.side.Side.{Side}
use Rattle.parties.specs.Side.{started, stepped}

module _ {L : Type 0} (K : Kind L) (F : L → ℕ → L) (c : Parts) where
  -- open: the record at the start, the offset and the seed, each input's zero label, and zero on each other wire up to the last
  pub record Opened (seed : List ℕ) (side : Side) (Δ kept : L) (old new : List L) : Type 0 where
    pub side_is : side ≡ started c.sizes (wires_in c)
    pub offset_is : Δ ≡ offset F (K.from seed) K
    pub seed_is : kept ≡ K.from seed
    pub room : wires_in c ≤ length old
    pub wires : Filled (wires_in c) (opened_wire K F (K.from seed) c.sizes.inputs) old new

  -- garble, at the side's next gate, from the zero labels on the wires
  module _ (seed Δ : L) (s : Side) where
    pub record Garbled (side : Side) (bits : ℕ) (old new : List L) (material written : List ℕ) (scratch cleared : List L) : Type 0 where
      pub side_is : side ≡ stepped s (makes (form_of c s.next)) (gate_bytes (8 * K.width) (form_of c s.next))
      pub bits_are : bits ≡ gate_bits (8 * K.width) (form_of c s.next)
      pub wires : Grown s.made (makes (form_of c s.next)) (places K (new_zeros c s.next K (places K old) F seed Δ)) old new
      pub material_is : written ≡ laid s.bytes (gate_material c s.next K (places K old) F seed Δ) material
      pub scratch_is : cleared ≡ replicate (length scratch) K.zero

-- encode: the zero label, with the offset where the bit is 1
abbrev pub encoded : {L : Type 0} → Kind L → L → List L → ℕ → ℕ → L
encoded K Δ wires input bit = K.xor (places K wires input) (times K (bit == 1) Δ)

-- the count that a denied opening leaves: one call more where the offset has no colour
abbrev pub denied_count : ℕ → Refusal → ℕ
denied_count count why = cond (number_of why == 16) (counted count 1) count
