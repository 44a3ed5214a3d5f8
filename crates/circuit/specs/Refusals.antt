-- Refusals: their numbers, and the first one met in an order of tests. Assumes nothing.
use Rattle.std.specs.Prelude.{ℕ, Bool, cond, List, [], ◌∷◌, ◌++◌, codes, decimal, Some, None, Ok, Err, Option, Result}
use Rattle.circuit.specs.declared.refusal.Refusal.{Refusal}
use Rattle.circuit.specs.declared.refusal.Refusal.TheVariants.{Short, Size, Length, UnknownForm, PastArray, TooManyWires, NotMade, WideRow, Turn, Memory, Material, Number, Bit, Again, ZeroSeed, Colourless, Foreign}

-- the number of a refusal
abbrev pub number_of : Refusal → ℕ
number_of Short = 1
number_of Size = 2
number_of Length = 3
number_of (UnknownForm g) = 4
number_of (PastArray g) = 5
number_of (TooManyWires g) = 6
number_of (NotMade g) = 7
number_of (WideRow g) = 8
number_of Turn = 9
number_of Memory = 10
number_of Material = 11
number_of Number = 12
number_of Bit = 13
number_of Again = 14
number_of ZeroSeed = 15
number_of Colourless = 16
number_of Foreign = 17

-- the gate that a refusal names
abbrev pub gate_of : Refusal → Option ℕ
gate_of Short = None
gate_of Size = None
gate_of Length = None
gate_of (UnknownForm g) = Some g
gate_of (PastArray g) = Some g
gate_of (TooManyWires g) = Some g
gate_of (NotMade g) = Some g
gate_of (WideRow g) = Some g
gate_of Turn = None
gate_of Memory = None
gate_of Material = None
gate_of Number = None
gate_of Bit = None
gate_of Again = None
gate_of ZeroSeed = None
gate_of Colourless = None
gate_of Foreign = None

-- a refusal in words
abbrev pub refusal_text : Refusal → List ℕ
refusal_text why = codes "refused " ++ decimal (number_of why)

-- the refusal of the first test that is met
abbrev pub first_of : List (Bool × Refusal) → Option Refusal
first_of [] = None
first_of (t ∷ rest) = cond t.0 (Some t.1) (first_of rest)

-- one place's refusal, or else the next place's
abbrev pub or_else : Option Refusal → Option Refusal → Option Refusal
or_else (Some why) next = Some why
or_else None next = next

-- a call's result: its refusal, or else its answer
abbrev pub refused_or : {A : Type 0} → Option Refusal → A → Result A Refusal
refused_or (Some why) answer = Err why
refused_or None answer = Ok answer
