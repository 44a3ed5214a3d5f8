-- The parts of a worksheet's input, as the code holds them. Assumes nothing.
use Rattle.std.specs.Prelude.{◌≡◌, ℕ, true, List, length, None}
use Rattle.circuit.specs.Header.{sizes_of, within}
use Rattle.listing.specs.Worksheet.{sheet_refusal, circuit_in, seed_in, bits_from}
use Rattle.listing.specs.declared.input.Input.{Input}

pub record Cut (input : List ℕ) (p : Input) : Type 0 where
  pub passes : sheet_refusal input ≡ None
  pub sizes : p.sizes ≡ sizes_of input
  pub limits : within (sizes_of input) ≡ true
  pub circuit : p.circuit.now ≡ circuit_in input
  pub seed : p.seed.now ≡ seed_in input
  pub bits : p.bits.now ≡ bits_from input
  pub front : sizes_of (circuit_in input) ≡ sizes_of input
  pub count : length (bits_from input) ≡ (sizes_of input).inputs
  pub seed_long : length p.seed.now ≡ 2
