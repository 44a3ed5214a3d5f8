-- The text of a settlement that is done is that of the definitions. Assumes nothing.
use Rattle.std.proofs.Common.{◌≡◌, ℕ, zero, suc, ◌+◌, ◌*◌, ◌-◌, ◌<◌, ◌≤◌, Bool, true, false, not, eqb, List, [], ◌∷◌, ◌++◌, length, get_or, codes, None, refl, ap, ◌∙◌, ap₂, arith}
use Rattle.std.specs.Prelude.{nat_eq, slice_index}
use Rattle.std.proofs.lemmas.Bool.{eqb-true}
use Rattle.labels.specs.Longs.{long}
use Rattle.labels.specs.Numbers.{digit, number}
use Rattle.labels.specs.declared.long.Long.{Long}
use Rattle.hashes.specs.AesHash.{aes_hash}
use Rattle.circuit.specs.Parts.{Parts, parts_of}
use Rattle.circuit.specs.Check.{circuit_refusal, bytes_in}
use Rattle.circuit.proofs.Checks.{or_else_none}
use Rattle.circuit.specs.Refusals.{first_of}
use Rattle.circuit.specs.declared.refusal.Refusal.TheVariants.{Memory}
use Rattle.labels.proofs.Numbers.{number_same}
use Rattle.laws.proofs.Lengths.{material_before_long}
use Rattle.tables.proofs.Packing.{length_listed, get_or_listed}
use Rattle.settlement.specs.Lines.{call_at, line_at}
use Rattle.settlement.specs.declared.call.Call.{Call}
use Rattle.settlement.specs.declared.call.Call.TheVariants.{Garble}
use Rattle.settlement.specs.declared.lent.Lent.{Lent}
use Rattle.settlement.specs.declared.line.Line.{Line}
use Rattle.settlement.proofs.Values.{digit_is}
use Rattle.exchange.specs.Course.{calls_in, course}
use Rattle.exchange.specs.Planned.{calls_of}
use Rattle.exchange.specs.Outcome.{Outcome}
use Rattle.listing.specs.Lines.{out_line}
use Rattle.listing.specs.Calls.{call_line, call_lines}
use Rattle.listing.specs.Dividend.{count_bits, sixteen_refusal, settled_text, call_by, line_by, out_bit, last_line, settle_lines, tickets_line, size_line, counts_line, dividend_line}
use Rattle.listing.proofs.Steps.{numbers_same}

-- the same calls and lines give the same text
lines_same : (a a' : ℕ → Call) (b b' : ℕ → Line Long) (n : ℕ) → ((k : ℕ) → k < n → a k ≡ a' k) → ((k : ℕ) → k < n → b k ≡ b' k) → call_lines a b n ≡ call_lines a' b' n
lines_same a a' b b' zero p q = refl
lines_same a a' b b' (suc n) p q =
    let front = lines_same a a' b b' n (λ k l. p k (omega arith)) (λ k l. q k (omega arith)) in
    let pn = p n (omega arith) in
    let qn = q n (omega arith) in
    ap₂ (λ (xs ys : List ℕ). xs ++ ys) front (λ i. call_line (pn i) (qn i))

met_not : (b : Bool) → first_of ((not b, Memory) ∷ []) ≡ None → b ≡ true
met_not true e = refl
met_not false e = absurd (let z : ◌≡◌ {A = ℕ} 0 1 = cc in omega arith)

module _ (bytes seed : List ℕ) (first second : ℕ) (lent : Lent Long) (calls : List Call) (lines : List (Line Long))
    (sixteen : sixteen_refusal bytes ≡ None) (are : calls ≡ calls_of long (parts_of bytes) (count_bits first second))
    (done : Outcome long aes_hash (long.from seed) (parts_of bytes) (count_bits first second) lent lines) (both : length lines ≡ length calls) where
  abbrev c : Parts
  c = parts_of bytes

  outputs_are : c.sizes.outputs ≡ 16
  outputs_are = eqb-true c.sizes.outputs 16 (met_not (eqb c.sizes.outputs 16) (or_else_none (circuit_refusal bytes) _ sixteen).1)

  pub outputs_sixteen : length lent.outputs.now ≡ 16
  outputs_sixteen = done.outputs_long ∙ outputs_are

  many : length calls ≡ calls_in c.sizes
  many = ap length are ∙ length_listed (course c.sizes (bytes_in long c c.sizes.gates) (count_bits first second)) (calls_in c.sizes)

  pub some_lines : 1 ≤ length lines
  some_lines = omega (arith, both, many)

  call_is : (k : ℕ) → k < calls_in c.sizes → call_at calls k ≡ call_by bytes seed first second k
  call_is k l =
      ap (λ (xs : List Call). get_or xs k (Garble 0 0)) are
      ∙ get_or_listed (course c.sizes (bytes_in long c c.sizes.gates) (count_bits first second)) (calls_in c.sizes) k (Garble 0 0) l

  last_is : line_at lines (length lines - 1) ≡ last_line bytes seed first second
  last_is =
      let k : ℕ = 2 * c.sizes.inputs + 2 * c.sizes.gates + (1 + c.sizes.outputs) in
      let e : length lines - 1 ≡ k = omega (arith, both, many) in
      ap (line_at lines) e ∙ done.lines_are k (omega arith)

  bit_is : (o : ℕ) → o < 16 → slice_index lent.outputs.now o ≡ digit (out_bit bytes seed first second o)
  bit_is o l = done.outputs_are o (omega (arith, outputs_are))

  pub text_same : settled_text first second (call_at calls) (line_at lines) (length calls) (length lent.material.now) (line_at lines (length lines - 1)).garbler_count (line_at lines (length lines - 1)).evaluator_count
      (λ o. slice_index lent.outputs.now o) (number 16 (λ o. nat_eq (slice_index lent.outputs.now o) 1)) ≡ settle_lines bytes seed first second
  text_same =
      let a : call_lines (call_at calls) (line_at lines) (length calls) ≡ call_lines (call_by bytes seed first second) (line_by bytes seed first second) (calls_in c.sizes) =
      ap (call_lines (call_at calls) (line_at lines)) many ∙ lines_same _ _ _ _ (calls_in c.sizes) call_is done.lines_are in
      let m : length lent.material.now ≡ bytes_in long c c.sizes.gates = ap length done.material_is ∙ material_before_long long aes_hash (long.from seed) c c.sizes.gates in
      let o : out_line (λ o. slice_index lent.outputs.now o) 16 ≡ out_line (λ o. digit (out_bit bytes seed first second o)) 16 =
      ap (λ (xs : List ℕ). codes "out " ++ (xs ++ codes "\n")) (numbers_same (λ o. slice_index lent.outputs.now o) (λ o. digit (out_bit bytes seed first second o)) 16 bit_is) in
      let d : number 16 (λ o. nat_eq (slice_index lent.outputs.now o) 1) ≡ number 16 (out_bit bytes seed first second) =
      number_same 16 _ _ (λ k h. ap (λ (n : ℕ). eqb n 1) (bit_is k h) ∙ digit_is (out_bit bytes seed first second k)) in
      (λ i. tickets_line first second ++ (a i ++ (size_line (m i) ++ (counts_line (last_is i).garbler_count (last_is i).evaluator_count ++ (o i ++ dividend_line (d i))))))
