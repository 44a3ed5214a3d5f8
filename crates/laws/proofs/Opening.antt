-- The open copy of a circuit: the same circuit but for its rows, which are zero. Assumes nothing.
use Rattle.std.proofs.Common.{◌≡◌, ℕ, zero, suc, ◌+◌, ◌-◌, ◌*◌, ◌^◌, ◌<◌, ◌≤◌, Bool, true, false, not, eqb, leb, ltb, List, [], ◌∷◌, ◌++◌, length, get_or, take, drop, replicate, None, refl, sym, ap, ap₂, ◌∙◌, inl, inr, pow_pos, arith}
use Rattle.std.proofs.lemmas.Bool.{cases_Bool, cases_lt}
use Rattle.std.proofs.lemmas.List.{get_or_append_left, get_or-take, get_or-replicate, get_or_past, take_at, take-take, take-append-le, drop-drop, drop_at, drop-take, length-append, length-take-le, length-drop, length-replicate}
use Rattle.labels.specs.Kind.{Kind}
use Rattle.labels.specs.Words.{word_at}
use Rattle.circuit.specs.Forms.{fan_in, fan_out}
use Rattle.circuit.specs.Words.{part, all_below}
use Rattle.circuit.specs.Header.{sizes_of, words_in, within as within_limits}
use Rattle.circuit.specs.Parts.{Parts, parts_at, parts_of}
use Rattle.circuit.specs.Gates.{form_of, row_of, rows_from, made_before, in_order, rows_fit}
use Rattle.circuit.specs.Refusals.{first_of, or_else}
use Rattle.circuit.specs.Check.{most_wires, size_refusal, shape_refusal, wires_refusal, gate_refusal, gates_refusal, list_refusal, circuit_refusal}
use Rattle.circuit.specs.declared.sizes.Sizes.{Sizes}
use Rattle.circuit.specs.declared.refusal.Refusal.{Refusal}
use Rattle.circuit.specs.declared.refusal.Refusal.TheVariants.{Short, Size, Length}
use Rattle.circuit.proofs.Bounds.{below_all}
use Rattle.circuit.proofs.Checks.{or_else_none}
use Rattle.memory.specs.Copy.{rows_begin, rows_end, open_copy}
use Rattle.memory.proofs.Copying.{passed_long}
use Rattle.steps.specs.Gate.{new_labels, evaluate_calls}
use Rattle.laws.proofs.Ordered.{Ordered}
use Rattle.laws.specs.Opened.{opened}

-- bytes of a string with a part in the middle of it replaced by as many others
module _ (bytes mid : List ℕ) (from end : ℕ) (long : from + length mid ≡ end) (room : end ≤ length bytes) where
  abbrev copy : List ℕ
  copy = take from bytes ++ (mid ++ drop end bytes)

  front_long : length (take from bytes) ≡ from
  front_long = length-take-le from bytes (omega arith)

  -- what lies in front of it
  before : (at size : ℕ) → at + size ≤ from → take size (drop at copy) ≡ take size (drop at bytes)
  before at size l =
      let e = front_long in
      let d : at + size ≤ length (take from bytes) = omega arith in
      sym (drop-take at size copy) ∙ ap (drop at) (take-append-le (at + size) (take from bytes) (mid ++ drop end bytes) d ∙ take-take (at + size) from bytes l) ∙ drop-take at size bytes

  -- the part itself
  within : drop from copy ≡ mid ++ drop end bytes
  within = drop_at (take from bytes) (mid ++ drop end bytes) from front_long

  replaced : (size : ℕ) → size ≡ length mid → take size (drop from copy) ≡ mid
  replaced size e = ap (take size) within ∙ take_at mid (drop end bytes) size (sym e)

  -- what lies behind it
  after : (at : ℕ) → end ≤ at → drop at copy ≡ drop at bytes
  after at l =
      let d : from + (at - from) ≡ at = omega arith in
      let k : length mid + (at - end) ≡ at - from = omega arith in
      let b : end + (at - end) ≡ at = omega arith in
      ap (λ (n : ℕ). drop n copy) (sym d) ∙ sym (drop-drop (at - from) from copy) ∙ ap (drop (at - from)) within
      ∙ ap (λ (n : ℕ). drop n (mid ++ drop end bytes)) (sym k)
      ∙ sym (drop-drop (at - end) (length mid) (mid ++ drop end bytes))
      ∙ ap (drop (at - end)) (drop_at mid (drop end bytes) (length mid) refl)
      ∙ drop-drop (at - end) end bytes ∙ ap (λ (n : ℕ). drop n bytes) b

  byte_before : (i : ℕ) → i < from → get_or copy i 0 ≡ get_or bytes i 0
  byte_before i l =
      let e = front_long in
      get_or_append_left (take from bytes) (mid ++ drop end bytes) 0 i (omega arith) ∙ get_or-take from bytes i 0 l

  copy_long : length copy ≡ length bytes
  copy_long =
      let e = front_long in
      length-append (take from bytes) (mid ++ drop end bytes) ∙ (let a = length-append mid (drop end bytes) in let d = length-drop end bytes in omega arith)

module _ (bytes : List ℕ) (passes : circuit_refusal bytes ≡ None) where
  abbrev zeros : List ℕ
  zeros = replicate (2 * (sizes_of bytes).rows) 0

  zeros_long : length zeros ≡ 2 * (sizes_of bytes).rows
  zeros_long = length-replicate (2 * (sizes_of bytes).rows) 0

  ends : rows_begin bytes + length zeros ≡ rows_end bytes
  ends = let l = zeros_long in omega arith

  room : rows_end bytes ≤ length bytes
  room = let l = passed_long bytes passes in omega arith

  word_before : (k : ℕ) → k < 5 → word_at (open_copy bytes) k ≡ word_at bytes k
  unfolding open_copy
  word_before k l =
      ap₂ (λ (a b : ℕ). a + 256 * b)
      (byte_before bytes zeros (rows_begin bytes) (rows_end bytes) ends room (2 * k) (omega arith))
      (byte_before bytes zeros (rows_begin bytes) (rows_end bytes) ends room (2 * k + 1) (omega arith))

  pub sizes_open : sizes_of (open_copy bytes) ≡ sizes_of bytes
  sizes_open =
      let a = word_before 0 (omega arith) in
      let b = word_before 1 (omega arith) in
      let d = word_before 2 (omega arith) in
      let e = word_before 3 (omega arith) in
      let f = word_before 4 (omega arith) in
      cc

  part_before : (from count : ℕ) → from + count ≤ 5 + 2 * (sizes_of bytes).gates + (sizes_of bytes).operands → part from count (open_copy bytes) ≡ part from count bytes
  unfolding open_copy
  part_before from count l = before bytes zeros (rows_begin bytes) (rows_end bytes) ends room (2 * from) (2 * count) (omega arith)

  part_after : (from count : ℕ) → 5 + 2 * (sizes_of bytes).gates + (sizes_of bytes).operands + (sizes_of bytes).rows ≤ from → part from count (open_copy bytes) ≡ part from count bytes
  unfolding open_copy
  part_after from count l = ap (take (2 * count)) (after bytes zeros (rows_begin bytes) (rows_end bytes) ends room (2 * from) (omega arith))

  rows_zero : part (5 + 2 * (sizes_of bytes).gates + (sizes_of bytes).operands) (sizes_of bytes).rows (open_copy bytes) ≡ zeros
  unfolding open_copy
  rows_zero = replaced bytes zeros (rows_begin bytes) (rows_end bytes) ends room (2 * (sizes_of bytes).rows) (sym zeros_long)

  -- its parts are those of the circuit, but for the rows
  pub parts_open : parts_of (open_copy bytes) ≡ opened (parts_of bytes)
  parts_open =
      let s : Sizes = sizes_of bytes in
      let f = part_before 5 s.gates (omega arith) in
      let p = part_before (5 + s.gates) s.gates (omega arith) in
      let o = part_before (5 + 2 * s.gates) s.operands (omega arith) in
      let r = rows_zero in
      let u = part_after (5 + 2 * s.gates + s.operands + s.rows) s.outputs (omega arith) in
      let e : parts_at s (open_copy bytes) ≡ opened (parts_of bytes) = cc in
      ap (λ (t : Sizes). parts_at t (open_copy bytes)) sizes_open ∙ e

-- what the evaluator makes of a gate looks at no row
module _ (c : Parts) where
  pub ordered_open : Ordered c → Ordered (opened c)
  ordered_open o = record { forms = o.forms; order = o.order }

  pub calls_open : (g : ℕ) → evaluate_calls (opened c) g ≡ evaluate_calls c g
  unfolding evaluate_calls
  calls_open g = refl

pub labels_open : {L : Type 0} (K : Kind L) (F : L → ℕ → L) (bytes : List ℕ) (c : Parts) (g : ℕ) (v : ℕ → L) → new_labels (opened c) g K v F bytes ≡ new_labels c g K v F bytes
unfolding new_labels
labels_open K F bytes c g v = refl

-- the open copy passes too
zero_at : (n i : ℕ) → get_or {A = ℕ} (replicate n 0) i 0 ≡ 0
zero_at n i =
    let zeros : List ℕ = replicate n 0 in
    elim (cases_lt i n) [
      | inl l ↦ get_or-replicate n i 0 0 l
      | inr l ↦ (let e : length zeros ≡ n = length-replicate n 0 in get_or_past zeros i 0 (omega arith))
    ]

-- of three tests none is met, nor if the last is another that is not
last_other : (a b d e : Bool) (x y z : Refusal) → first_of ((a, x) ∷ (not b, y) ∷ (not d, z) ∷ []) ≡ None → e ≡ true → first_of ((a, x) ∷ (not b, y) ∷ (not e, z) ∷ []) ≡ None
last_other true b d e x y z h t = absurd (let q : ◌≡◌ {A = ℕ} 0 1 = cc in omega arith)
last_other false false d e x y z h t = absurd (let q : ◌≡◌ {A = ℕ} 0 1 = cc in omega arith)
last_other false true d e x y z h t = rw t

module _ (c : Parts) where
  row_zero : (g i : ℕ) → row_of (opened c) g i ≡ 0
  row_zero g i =
      let a = zero_at (2 * c.sizes.rows) (2 * (rows_from c g + i)) in
      let b = zero_at (2 * c.sizes.rows) (2 * (rows_from c g + i) + 1) in
      omega arith

  rows_narrow : (g : ℕ) → rows_fit (opened c) g ≡ true
  rows_narrow g =
      let p = pow_pos (fan_out (form_of c g)) in
      let all : all_below (row_of (opened c) g) (2 ^ fan_in (form_of c g)) (2 ^ fan_out (form_of c g)) ≡ true = below_all (row_of (opened c) g) (2 ^ fan_in (form_of c g)) (2 ^ fan_out (form_of c g)) (λ k l. let z = row_zero g k in omega arith) in
      elim (cases_Bool (leb (form_of c g) 1)) [ inl e ↦ rw e | inr e ↦ rw (e, all) ]

  shape_open : (g : ℕ) → shape_refusal (opened c) g ≡ shape_refusal c g
  unfolding shape_refusal
  shape_open g = refl

  wires_open : (g : ℕ) → wires_refusal c g ≡ None → wires_refusal (opened c) g ≡ None
  unfolding wires_refusal
  wires_open g h = last_other (ltb most_wires (made_before c (suc g))) (in_order c g) (rows_fit c g) (rows_fit (opened c) g) _ _ _ h (rows_narrow g)

  gate_open : (g : ℕ) → gate_refusal c g ≡ None → gate_refusal (opened c) g ≡ None
  gate_open g h =
      let p : (shape_refusal c g ≡ None) × (wires_refusal c g ≡ None) = or_else_none (shape_refusal c g) (wires_refusal c g) h in
      let a : shape_refusal (opened c) g ≡ None = shape_open g ∙ p.0 in
      rw a (wires_open g p.1)

  gates_open : (n : ℕ) → gates_refusal c n ≡ None → gates_refusal (opened c) n ≡ None
  gates_open zero h = refl
  gates_open (suc n) h =
      let p : (gates_refusal c n ≡ None) × (gate_refusal c n ≡ None) = or_else_none (gates_refusal c n) (gate_refusal c n) h in
      let a : gates_refusal (opened c) n ≡ None = gates_open n p.0 in
      rw a (gate_open n p.1)

module _ (bytes : List ℕ) (passes : circuit_refusal bytes ≡ None) where
  abbrev c : Parts
  c = parts_of bytes

  -- the three places where a check may refuse
  places_pass : (size_refusal bytes ≡ None) × (gates_refusal c c.sizes.gates ≡ None) × (list_refusal c ≡ None)
  unfolding circuit_refusal
  places_pass =
      let a : (size_refusal bytes ≡ None) × (or_else (gates_refusal c c.sizes.gates) (list_refusal c) ≡ None) = or_else_none (size_refusal bytes) _ passes in
      let b : (gates_refusal c c.sizes.gates ≡ None) × (list_refusal c ≡ None) = or_else_none (gates_refusal c c.sizes.gates) (list_refusal c) a.1 in
      (a.0, b.0, b.1)

  pub long_open : length (open_copy bytes) ≡ length bytes
  unfolding open_copy
  long_open = copy_long bytes (zeros bytes passes) (rows_begin bytes) (rows_end bytes) (ends bytes passes) (room bytes passes)

  sizes_pass : size_refusal (open_copy bytes) ≡ None
  sizes_pass =
      let s = sizes_open bytes passes in
      let l = long_open in
      (λ i. first_of ((ltb (l i) 10, Short) ∷ (not (within_limits (s i)), Size) ∷ (not (eqb (l i) (2 * words_in (s i))), Length) ∷ [])) ∙ places_pass.0

  gates_same : gates_refusal (parts_of (open_copy bytes)) (sizes_of (open_copy bytes)).gates ≡ None
  gates_same = ap (λ (p : Parts). gates_refusal p p.sizes.gates) (parts_open bytes passes) ∙ gates_open c c.sizes.gates places_pass.1

  outputs_same : list_refusal (parts_of (open_copy bytes)) ≡ None
  outputs_same = ap list_refusal (parts_open bytes passes) ∙ places_pass.2

  pub passes_open : circuit_refusal (open_copy bytes) ≡ None
  unfolding circuit_refusal
  passes_open = let a = sizes_pass in let b = gates_same in let d = outputs_same in rw (a, b, d)
