-- What each wire carries once all gates are made, for any rule that looks only at wires before its gate. Assumes nothing.
use Rattle.std.proofs.Common.{◌≡◌, ℕ, suc, ◌+◌, ◌<◌, sym, ◌∙◌, arith}
use Rattle.wires.specs.Wires.{wire_after}
use Rattle.wires.proofs.Made.{wire_fresh, wire_stays}
use Rattle.circuit.specs.Forms.{makes}
use Rattle.circuit.specs.Parts.{Parts}
use Rattle.circuit.specs.Gates.{form_of, made_before}
use Rattle.circuit.proofs.GateParts.{made_rises}
use Rattle.laws.proofs.Order.{fresh_within}

module _ {T : Type 0} (c : Parts) (rule : ℕ → (ℕ → T) → ℕ → T) (given : ℕ → T) where
  abbrev carried : ℕ → T
  carried w = wire_after (made_before c) rule given c.sizes.gates w

  -- an input its given value
  pub input_carried : (i : ℕ) → i < c.sizes.inputs → carried i ≡ given i
  input_carried i l = wire_stays (made_before c) rule given (made_rises c) 0 c.sizes.gates i (omega arith) (omega arith)

  -- a new wire what its gate's rule makes of all wires
  pub fresh_carried : (g : ℕ) → g < c.sizes.gates → ((v u : ℕ → T) → ((w : ℕ) → w < made_before c g → v w ≡ u w) → (j : ℕ) → rule g v j ≡ rule g u j)
      → (j : ℕ) → j < makes (form_of c g) → carried (made_before c g + j) ≡ rule g carried j
  fresh_carried g there local j l =
      wire_stays (made_before c) rule given (made_rises c) (suc g) c.sizes.gates (made_before c g + j) (omega arith) (fresh_within c g (suc g) j (omega arith) l)
      ∙ wire_fresh (made_before c) rule given g j
      ∙ local (λ w. wire_after (made_before c) rule given g w) (λ w. carried w) (λ w h. sym (wire_stays (made_before c) rule given (made_rises c) g c.sizes.gates w (omega arith) h)) j
