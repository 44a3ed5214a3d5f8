-- The refusals of a circuit, and of a side that begins with it, have numbers up to 10. Assumes nothing.
use Rattle.std.proofs.Common.{◌≡◌, ℕ, zero, suc, ◌*◌, ◌≤◌, Bool, true, false, not, eqb, ltb, List, [], ◌∷◌, length, Some, None, Option, arith}
use Rattle.std.proofs.lemmas.Bool.{ne_eqb}
use Rattle.circuit.specs.Parts.{Parts, parts_of}
use Rattle.circuit.specs.Words.{all_below}
use Rattle.circuit.specs.Forms.{known}
use Rattle.circuit.specs.Gates.{form_of, past_arrays, in_order, rows_fit, output_of, made_before, wires_in}
use Rattle.circuit.specs.Header.{sizes_of, within, words_in}
use Rattle.circuit.specs.Refusals.{number_of, first_of, or_else}
use Rattle.circuit.specs.Check.{size_refusal, shape_refusal, wires_refusal, gate_refusal, gates_refusal, list_refusal, circuit_refusal, most_wires}
use Rattle.circuit.specs.declared.refusal.Refusal.{Refusal}
use Rattle.circuit.specs.declared.refusal.Refusal.TheVariants.{Short, Size, Length, UnknownForm, PastArray, TooManyWires, NotMade, WideRow, Turn, Memory}
use Rattle.parties.specs.Refusing.{begin_refusal}

-- no number above 10
Early : Option Refusal → Type 0
Early o = (why : Refusal) → o ≡ Some why → number_of why ≤ 10

or_early : (a b : Option Refusal) → Early a → Early b → Early (or_else a b)
unfolding Early
or_early (Some x) b p q why e = p why e
or_early None b p q why e = q why e

none_early : Early None
unfolding Early
none_early why e = absurd (let z : ◌≡◌ {A = ℕ} 0 1 = cc in omega arith)

-- a test, and the tests behind it
test_early : (b : Bool) (x : Refusal) (rest : List (Bool × Refusal)) → number_of x ≤ 10 → Early (first_of rest) → Early (first_of ((b, x) ∷ rest))
unfolding Early
test_early true x rest l r why e = let s : x ≡ why = cc in let n : number_of x ≡ number_of why = (λ i. number_of (s i)) in omega arith
test_early false x rest l r why e = r why e

module _ (c : Parts) where
  shape_early : (g : ℕ) → Early (shape_refusal c g)
  unfolding shape_refusal
  shape_early g = test_early (not (known (form_of c g))) (UnknownForm g) ((past_arrays c g, PastArray g) ∷ []) (omega arith) (test_early (past_arrays c g) (PastArray g) [] (omega arith) none_early)

  wires_early : (g : ℕ) → Early (wires_refusal c g)
  unfolding wires_refusal
  wires_early g =
      test_early (ltb most_wires (made_before c (suc g))) (TooManyWires g) ((not (in_order c g), NotMade g) ∷ (not (rows_fit c g), WideRow g) ∷ []) (omega arith)
      (test_early (not (in_order c g)) (NotMade g) ((not (rows_fit c g), WideRow g) ∷ []) (omega arith) (test_early (not (rows_fit c g)) (WideRow g) [] (omega arith) none_early))

  gates_early : (g : ℕ) → Early (gates_refusal c g)
  gates_early zero = none_early
  gates_early (suc g) = or_early (gates_refusal c g) (gate_refusal c g) (gates_early g) (or_early (shape_refusal c g) (wires_refusal c g) (shape_early g) (wires_early g))

circuit_early : (bytes : List ℕ) → Early (circuit_refusal bytes)
unfolding circuit_refusal
circuit_early bytes =
    or_early (size_refusal bytes) _
    (test_early (ltb (length bytes) 10) Short ((not (within (sizes_of bytes)), Size) ∷ (not (eqb (length bytes) (2 * words_in (sizes_of bytes))), Length) ∷ []) (omega arith)
    (test_early (not (within (sizes_of bytes))) Size ((not (eqb (length bytes) (2 * words_in (sizes_of bytes))), Length) ∷ []) (omega arith)
    (test_early (not (eqb (length bytes) (2 * words_in (sizes_of bytes)))) Length [] (omega arith) none_early)))
    (or_early (gates_refusal (parts_of bytes) (sizes_of bytes).gates) (list_refusal (parts_of bytes)) (gates_early (parts_of bytes) (sizes_of bytes).gates) (test_early (not (all_below (output_of (parts_of bytes)) (sizes_of bytes).outputs (wires_in (parts_of bytes)))) (NotMade (sizes_of bytes).gates) [] (omega arith) none_early))

pub begin_not_16 : (bytes : List ℕ) (turn : Bool) (wires : ℕ) (why : Refusal) → begin_refusal bytes turn wires ≡ Some why → eqb (number_of why) 16 ≡ false
unfolding Early
begin_not_16 bytes turn wires why e =
    let l = or_early (circuit_refusal bytes) (first_of ((not turn, Turn) ∷ (ltb wires (wires_in (parts_of bytes)), Memory) ∷ [])) (circuit_early bytes)
    (test_early (not turn) Turn ((ltb wires (wires_in (parts_of bytes)), Memory) ∷ []) (omega arith) (test_early (ltb wires (wires_in (parts_of bytes))) Memory [] (omega arith) none_early)) why e in
    ne_eqb (number_of why) 16 (omega arith)
