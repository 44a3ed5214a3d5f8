-- How the refusal of a whole circuit comes about, and what its arrays are. Assumes nothing.
use Rattle.std.proofs.Common.{◌≡◌, ℕ, ◌+◌, ◌-◌, ◌*◌, ◌/◌, ◌<◌, ◌≤◌, true, false, eqb, ltb, List, length, take, drop, Some, None, sym, ap, ◌∙◌, subst, ap₂, arith}
use Rattle.std.proofs.lemmas.Bool.{lt-ltb, le-ltb, eq-eqb, ne_eqb}
use Rattle.std.proofs.lemmas.Bool.Decides.{nat_tests}
use Rattle.std.proofs.lemmas.List.{drop-drop, length-drop}
use Rattle.labels.specs.Words.{word_at}
use Rattle.circuit.specs.Words.{part, all_below}
use Rattle.circuit.specs.Header.{sizes_of, within, words_in}
use Rattle.circuit.specs.Parts.{Parts, parts_at, parts_of}
use Rattle.circuit.specs.Gates.{form_of, output_of, wires_in, in_order}
use Rattle.circuit.specs.Check.{size_refusal, shape_refusal, gates_refusal, circuit_refusal, most_wires}
use Rattle.circuit.specs.Forms.{known}
use Rattle.circuit.specs.Lent.{parts_in, Behind}
use Rattle.circuit.specs.Passed.{Passed}
use Rattle.circuit.specs.declared.sizes.Sizes.{Sizes}
use Rattle.circuit.specs.declared.arrays.Arrays.{Arrays}
use Rattle.circuit.specs.declared.refusal.Refusal.{Refusal}
use Rattle.circuit.specs.declared.refusal.Refusal.TheVariants.{Short, Size, Length, NotMade}
use Rattle.circuit.proofs.Wholes.{whole_in}
use Rattle.circuit.proofs.Checks.{or_else_none, only_none, each_passes, gate_in_order}
use Rattle.circuit.proofs.Shapes.{shape_known}

module _ (bytes : List ℕ) where
  pub too_short : length bytes < 10 → circuit_refusal bytes ≡ Some Short
  unfolding circuit_refusal
  too_short h = let t : ltb (length bytes) 10 ≡ true = lt-ltb (length bytes) 10 h in rw t

  module _ (long : 10 ≤ length bytes) where
    not_short : ltb (length bytes) 10 ≡ false
    not_short = le-ltb (length bytes) 10 long

    pub bad_size : within (sizes_of bytes) ≡ false → circuit_refusal bytes ≡ Some Size
    unfolding circuit_refusal
    bad_size e = rw (not_short, e)

    module _ (ok : within (sizes_of bytes) ≡ true) where
      pub bad_length : (length bytes ≡ 2 * words_in (sizes_of bytes) → ⊥) → circuit_refusal bytes ≡ Some Length
      unfolding circuit_refusal
      bad_length h = let t : eqb (length bytes) (2 * words_in (sizes_of bytes)) ≡ false = ne_eqb _ _ h in rw (not_short, ok, t)

      module _ (whole : length bytes ≡ 2 * words_in (sizes_of bytes)) where
        sizes_pass : size_refusal bytes ≡ None
        sizes_pass = let t : eqb (length bytes) (2 * words_in (sizes_of bytes)) ≡ true = eq-eqb _ _ whole in rw (not_short, ok, t)

        pub gates_fail : (why : Refusal) → gates_refusal (parts_of bytes) (sizes_of bytes).gates ≡ Some why → circuit_refusal bytes ≡ Some why
        unfolding circuit_refusal
        gates_fail why e = rw (sizes_pass, e)

        module _ (gates : gates_refusal (parts_of bytes) (sizes_of bytes).gates ≡ None) where
          pub outputs_fail : all_below (output_of (parts_of bytes)) (sizes_of bytes).outputs (wires_in (parts_of bytes)) ≡ false → circuit_refusal bytes ≡ Some (NotMade (sizes_of bytes).gates)
          unfolding circuit_refusal
          outputs_fail e = rw (sizes_pass, gates, e)

          pub circuit_passes : all_below (output_of (parts_of bytes)) (sizes_of bytes).outputs (wires_in (parts_of bytes)) ≡ true → circuit_refusal bytes ≡ None
          unfolding circuit_refusal
          circuit_passes e = rw (sizes_pass, gates, e)

-- a part of what stands behind the header
behind_part : (bytes : List ℕ) (k at n : ℕ) → at ≡ 5 + k → part k n (drop 10 bytes) ≡ part at n bytes
behind_part bytes k at n e =
    let d : drop (2 * k) (drop 10 bytes) ≡ drop (10 + 2 * k) bytes = drop-drop (2 * k) 10 bytes in
    let p : 10 + 2 * k ≡ 2 * at = omega arith in
    ap (take (2 * n)) (d ∙ ap (λ (j : ℕ). drop j bytes) p)

module _ (bytes rest : List ℕ) (s : Sizes) (a : Arrays) (b : Behind s rest a) where
  pub arrays_are : rest ≡ drop 10 bytes → s ≡ sizes_of bytes → parts_in a ≡ parts_of bytes
  arrays_are er es =
      let f = behind_part bytes 0 5 s.gates (omega arith) in
      let p = behind_part bytes s.gates (5 + s.gates) s.gates (omega arith) in
      let o = behind_part bytes (2 * s.gates) (5 + 2 * s.gates) s.operands (omega arith) in
      let r = behind_part bytes (2 * s.gates + s.operands) (5 + 2 * s.gates + s.operands) s.rows (omega arith) in
      let u = behind_part bytes (2 * s.gates + s.operands + s.rows) (5 + 2 * s.gates + s.operands + s.rows) s.outputs (omega arith) in
      let bs = b.sizes in
      let bf = b.forms in
      let bp = b.places in
      let bo = b.operands in
      let br = b.rows in
      let bu = b.outputs in
      let e : parts_in a ≡ parts_at s bytes = cc in
      e ∙ ap (λ (t : Sizes). parts_at t bytes) es

  pub long_enough : rest ≡ drop 10 bytes → 10 ≤ length bytes → length bytes ≡ 2 * words_in s
  long_enough er h =
      let l = b.long in
      let n : length rest ≡ length bytes - 10 = ap length er ∙ length-drop 10 bytes in
      omega arith

-- what the limits tell
pub within_inputs : (s : Sizes) → within s ≡ true → s.inputs ≤ 256
within_inputs s e = grind (arith, nat_tests)

pub within_gates : (s : Sizes) → within s ≡ true → s.gates ≤ 512
within_gates s e = grind (arith, nat_tests)

-- the arrays that the code cut out of bytes whose sizes are within their limits
module _ (bytes rest : List ℕ) (s : Sizes) (long : 10 ≤ length bytes) (es : s ≡ sizes_of bytes) (er : rest ≡ drop 10 bytes) (ok : within s ≡ true) where
  limits : within (sizes_of bytes) ≡ true
  limits = ap within (sym es) ∙ ok

  pub cut_fails : (length rest ≡ 2 * (2 * s.gates + s.operands + s.rows + s.outputs) → ⊥) → circuit_refusal bytes ≡ Some Length
  cut_fails h =
      let n : length rest ≡ length bytes - 10 = ap length er ∙ length-drop 10 bytes in
      bad_length bytes long limits (λ l.
      let w : words_in (sizes_of bytes) ≡ words_in s = ap words_in (sym es) in
      h (omega arith))

  module _ (a : Arrays) (b : Behind s rest a) where
    same : parts_in a ≡ parts_of bytes
    same = arrays_are bytes rest s a b er es

    full : length bytes ≡ 2 * words_in (sizes_of bytes)
    full = long_enough bytes rest s a b er long ∙ ap (λ (t : Sizes). 2 * words_in t) es

    count : a.sizes.gates ≡ (sizes_of bytes).gates
    count = ap (λ (t : Sizes). t.gates) (b.sizes ∙ es)

    gates_same : gates_refusal (parts_of bytes) (sizes_of bytes).gates ≡ gates_refusal (parts_in a) a.sizes.gates
    gates_same = ap₂ gates_refusal (sym same) (sym count)

    pub gates_stopped : (why : Refusal) → gates_refusal (parts_in a) a.sizes.gates ≡ Some why → circuit_refusal bytes ≡ Some why
    gates_stopped why e = gates_fail bytes long limits full why (gates_same ∙ e)

    module _ (w : ℕ) (gates : gates_refusal (parts_in a) a.sizes.gates ≡ None) (wires : w ≡ wires_in (parts_in a)) where
      outputs_same : all_below (word_at a.outputs.now) (length a.outputs.now / 2) w ≡ all_below (output_of (parts_of bytes)) (sizes_of bytes).outputs (wires_in (parts_of bytes))
      outputs_same =
          let l : length a.outputs.now ≡ 2 * a.sizes.outputs = a.outputs_long in
          let n : length a.outputs.now / 2 ≡ a.sizes.outputs = omega arith in
          ap₂ (λ (m v : ℕ). all_below (output_of (parts_in a)) m v) n wires
          ∙ ap (λ (p : Parts). all_below (output_of p) p.sizes.outputs (wires_in p)) same

      pub outputs_stopped : false ≡ all_below (word_at a.outputs.now) (length a.outputs.now / 2) w → circuit_refusal bytes ≡ Some (NotMade s.gates)
      outputs_stopped e =
          outputs_fail bytes long limits full (gates_same ∙ gates) (sym (e ∙ outputs_same))
          ∙ ap (λ (t : Sizes). Some (NotMade t.gates)) (sym es)

      pub read_passes : true ≡ all_below (word_at a.outputs.now) (length a.outputs.now / 2) w → w ≤ most_wires → Passed bytes (parts_in a) w
      read_passes e few =
          let i = within_inputs s ok in
          let q = within_gates s ok in
          let z = b.sizes in
          record {
            passes = circuit_passes bytes long limits full (gates_same ∙ gates) (sym (e ∙ outputs_same));
            parts = same;
            whole = whole_in a;
            count = wires;
            few = few;
            inputs = subst (λ (t : Sizes). t.inputs ≤ 256) (sym z) i;
            gates = subst (λ (t : Sizes). t.gates ≤ 512) (sym z) q;
          }

-- each gate of a circuit that passed
pub gates_pass : (bytes : List ℕ) (c : Parts) (w : ℕ) → Passed bytes c w → gates_refusal c c.sizes.gates ≡ None
unfolding circuit_refusal
gates_pass bytes c w p =
    let a = or_else_none (size_refusal bytes) _ p.passes in
    let b = or_else_none (gates_refusal (parts_of bytes) (sizes_of bytes).gates) _ a.1 in
    ap (λ (q : Parts). gates_refusal q q.sizes.gates) p.parts ∙ b.0

pub form_known : (bytes : List ℕ) (c : Parts) (w : ℕ) → Passed bytes c w → (g : ℕ) → g < c.sizes.gates → known (form_of c g) ≡ true
form_known bytes c w p g h =
    let e = each_passes c c.sizes.gates (gates_pass bytes c w p) g h in
    shape_known c g (or_else_none (shape_refusal c g) _ e).0

pub outputs_pass : (bytes : List ℕ) (c : Parts) (w : ℕ) → Passed bytes c w → all_below (output_of c) c.sizes.outputs (wires_in c) ≡ true
unfolding circuit_refusal
outputs_pass bytes c w p =
    let a = or_else_none (size_refusal bytes) _ p.passes in
    let b = or_else_none (gates_refusal (parts_of bytes) (sizes_of bytes).gates) _ a.1 in
    ap (λ (q : Parts). all_below (output_of q) q.sizes.outputs (wires_in q)) p.parts ∙ only_none _ _ b.1

pub each_in_order : (bytes : List ℕ) (c : Parts) (w : ℕ) → Passed bytes c w → (g : ℕ) → g < c.sizes.gates → in_order c g ≡ true
each_in_order bytes c w p g h = gate_in_order c g (each_passes c c.sizes.gates (gates_pass bytes c w p) g h)
