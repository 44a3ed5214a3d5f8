-- The lines of a worksheet. Assumes nothing.
use Rattle.std.specs.Prelude.{ℕ, zero, suc, Bool, List, [], ◌++◌, codes, decimal}
use Rattle.labels.specs.Numbers.{digit}
use Rattle.labels.specs.declared.paper.Paper.{Paper}
use Rattle.listing.specs.Hex.{hex_label, hex_bytes}

abbrev pub offset_line : Paper → List ℕ
offset_line x = codes "offset " ++ (hex_label x ++ codes "\n")

-- a wire's number, its zero label, its label and its bit
abbrev pub label_line : ℕ → Paper → Paper → Bool → List ℕ
label_line w z x b =
    decimal w ++ (codes " " ++ (hex_label z ++ (codes " " ++ (hex_label x ++ (codes " " ++ (decimal (digit b) ++ codes "\n"))))))

-- the lines of the wires below n
abbrev pub label_lines : (ℕ → Paper) → (ℕ → Paper) → (ℕ → Bool) → ℕ → List ℕ
label_lines zeros labels bits zero = []
label_lines zeros labels bits (suc n) = label_lines zeros labels bits n ++ label_line n (zeros n) (labels n) (bits n)

-- the n bytes of the material
abbrev pub material_line : (ℕ → ℕ) → ℕ → List ℕ
material_line f n = codes "material " ++ (hex_bytes f n ++ codes "\n")
