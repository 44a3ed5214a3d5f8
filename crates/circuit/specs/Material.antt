-- How much material a gate has, for labels of κ bits. Assumes nothing.
use Rattle.std.specs.Prelude.{ℕ, ◌*◌}
use Rattle.material.specs.Size.{table_bits, in_bytes}
use Rattle.circuit.specs.Forms.{fan_in, fan_out, by_form}

abbrev pub gate_bits : ℕ → ℕ → ℕ
gate_bits κ form = by_form form 0 (2 * κ) (table_bits κ (fan_in form) (fan_out form))

-- a gate's bits, filled up to whole bytes
abbrev pub gate_bytes : ℕ → ℕ → ℕ
gate_bytes κ form = in_bytes (gate_bits κ form)
