-- Wires made in order. Assumes nothing.
use Rattle.std.specs.Prelude.{◌≡◌, ℕ, zero, suc, ◌+◌, ◌-◌, ◌<◌, ◌≤◌, cond, List, length, nat_lt, slice_index_or}

-- m wires more, from wire `made` on, with the values f; all else as it was
pub record Grown {T : Type 0} (made m : ℕ) (f : ℕ → T) (old new : List T) : Type 0 where
  pub long : length new ≡ length old
  pub kept : (w : ℕ) (d : T) → w < made → slice_index_or new w d ≡ slice_index_or old w d
  pub fresh : (j : ℕ) (d : T) → j < m → slice_index_or new (made + j) d ≡ f j
  pub past : (w : ℕ) (d : T) → made + m ≤ w → slice_index_or new w d ≡ slice_index_or old w d

-- the first n wires have the values f; all else is as it was
pub record Filled {T : Type 0} (n : ℕ) (f : ℕ → T) (old new : List T) : Type 0 where
  pub long : length new ≡ length old
  pub front : (w : ℕ) (d : T) → w < n → slice_index_or new w d ≡ f w
  pub past : (w : ℕ) (d : T) → n ≤ w → slice_index_or new w d ≡ slice_index_or old w d

-- what wire w carries once the gates below g are made: an input has its given value, and wire j of a gate
-- has what the gate's rule makes of the wires before it
module _ {T : Type 0} (made : ℕ → ℕ) (rule : ℕ → (ℕ → T) → ℕ → T) (given : ℕ → T) where
  abbrev pub wire_after : ℕ → ℕ → T
  wire_after zero w = given w
  wire_after (suc g) w = cond (nat_lt w (made g)) (wire_after g w) (rule g (wire_after g) (w - made g))
