-- A gate's form: 0 is XOR, 1 is AND, and 256 n + m is a table of n inputs and m outputs. Assumes nothing.
use Rattle.std.specs.Prelude.{ℕ, ◌+◌, ◌/◌, ◌%◌, Bool, cond, ◌&&◌, ◌||◌, nat_le, ◌==◌}

-- of a table
abbrev pub fan_in : ℕ → ℕ
fan_in form = form / 256

abbrev pub fan_out : ℕ → ℕ
fan_out form = form % 256

abbrev pub is_table : ℕ → Bool
is_table form = (nat_le 1 (fan_in form) && nat_le (fan_in form) 8) && (nat_le 1 (fan_out form) && nat_le (fan_out form) 16)

abbrev pub known : ℕ → Bool
known form = nat_le form 1 || is_table form

-- as many wires as the gate reads, and as it makes
abbrev pub reads : ℕ → ℕ
reads form = cond (nat_le form 1) 2 (fan_in form)

abbrev pub makes : ℕ → ℕ
makes form = cond (nat_le form 1) 1 (fan_out form)

-- as many operand words: a table has the place of its first row behind its wires
abbrev pub operand_words : ℕ → ℕ
operand_words form = cond (nat_le form 1) 2 (fan_in form + 1)

-- what a gate has by its form: XOR, AND or a table
abbrev pub by_form : {X : Type 0} → ℕ → X → X → X → X
by_form form xor and table = cond (form == 0) xor (cond (form == 1) and table)
