-- Lines of text, as bytes. Assumes nothing.
use Rattle.std.specs.Prelude.{ℕ, zero, suc, List, [], ◌++◌, codes, decimal, Some, None, Option}
use Rattle.circuit.specs.Refusals.{refusal_text}
use Rattle.circuit.specs.declared.refusal.Refusal.{Refusal}

-- the numbers f 0 to f (n - 1), one behind the other
abbrev pub numbers : (ℕ → ℕ) → ℕ → List ℕ
numbers f zero = []
numbers f (suc n) = numbers f n ++ decimal (f n)

-- the line of the output bits
abbrev pub out_line : (ℕ → ℕ) → ℕ → List ℕ
out_line f n = codes "out " ++ (numbers f n ++ codes "\n")

abbrev pub refused_line : Refusal → List ℕ
refused_line why = refusal_text why ++ codes "\n"

-- a refusal's line, or else the text
abbrev pub text_unless : Option Refusal → List ℕ → List ℕ
text_unless (Some why) text = refused_line why
text_unless None text = text
