-- AES-128 of one block of 16 bytes under a key of 16 bytes, as FIPS 197 has it. Assumes nothing.
use Rattle.std.specs.Prelude.{ℕ, zero, suc, List, [], ◌∷◌}
use Rattle.aes.specs.Rounds.{add_round_key, full_round, last_round}
use Rattle.aes.specs.KeyExpansion.{key_expansion, round_key}

-- the state after the first n full rounds, with the words of a key's expansion
unfoldable pub rounds : List (List ℕ) → List ℕ → ℕ → List ℕ
rounds ws s zero = s
rounds ws s (suc n) = full_round (rounds ws s n) (round_key ws (suc n))

unfoldable pub cipher_with : List (List ℕ) → List ℕ → List ℕ
cipher_with ws block = last_round (rounds ws (add_round_key block (round_key ws 0)) 9) (round_key ws 10)

unfoldable pub cipher : List ℕ → List ℕ → List ℕ
cipher key block = cipher_with (key_expansion key) block

-- the key 00 01 .. 0f
unfoldable pub fixed_key : List ℕ
fixed_key = 0 ∷ 1 ∷ 2 ∷ 3 ∷ 4 ∷ 5 ∷ 6 ∷ 7 ∷ 8 ∷ 9 ∷ 10 ∷ 11 ∷ 12 ∷ 13 ∷ 14 ∷ 15 ∷ []
