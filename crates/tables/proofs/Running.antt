-- Stretches of hash calls, one after another. Assumes nothing.
use Rattle.std.proofs.Common.{◌≡◌, ℕ, ◌+◌, ◌^◌, ◌<◌, refl, ap, ◌∙◌, arith}
use Rattle.hashes.specs.Count.{counted}
use Rattle.tables.specs.Ran.{Ran}

module _ {L : Type 0} where
  pub ran_none : (F : L → ℕ → L) (c : ℕ) → c < 2 ^ 64 → Ran F F c c 0
  ran_none F c l = record { kept = refl; count = omega arith }

  pub ran_then : (F F' F'' : L → ℕ → L) (c c' c'' a b n : ℕ) → Ran F F' c c' a → Ran F' F'' c' c'' b → a + b ≡ n → Ran F F'' c c'' n
  ran_then F F' F'' c c' c'' a b n r s e = record { kept = s.kept ∙ r.kept; count = (let x = r.count in let y = s.count in omega arith) }

  pub ran_for : (F F' : L → ℕ → L) (c c' a b : ℕ) → Ran F F' c c' a → a ≡ b → Ran F F' c c' b
  ran_for F F' c c' a b r e = record { kept = r.kept; count = r.count ∙ ap (counted c) e }
