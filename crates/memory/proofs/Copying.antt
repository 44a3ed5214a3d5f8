-- A circuit that is copied. Assumes nothing.
use Rattle.std.proofs.Common.{◌≡◌, ℕ, ◌+◌, ◌-◌, ◌*◌, ◌≤◌, Bool, true, false, not, eqb, ltb, List, [], ◌∷◌, ◌++◌, length, take, drop, replicate, None, refl, ap, ◌∙◌, ap₂, arith, eqb-true}
use borrow.Rule.Slice.PartMut.{put_mid, post_of}
use Rattle.std.proofs.lemmas.List.{drop-drop, length-drop, length-take-le}
use Rattle.std.proofs.lemmas.Bool.{le-ltb}
use Rattle.circuit.specs.Check.{circuit_refusal, size_refusal, gates_refusal, list_refusal}
use Rattle.circuit.specs.Header.{sizes_of, within, words_in}
use Rattle.circuit.specs.Parts.{parts_of}
use Rattle.circuit.specs.Refusals.{first_of, or_else}
use Rattle.circuit.specs.declared.refusal.Refusal.{Refusal}
use Rattle.circuit.proofs.Checks.{or_else_none}
use Rattle.memory.specs.Copy.{open_copy, copy_refusal}

-- zeros written from a up to e
pub cleared_part : (a e : ℕ) (xs mid ys : List ℕ) → a ≤ e → e ≤ length xs → mid ≡ xs → ys ≡ replicate (length (take (e - a) (drop a mid))) 0
    → put_mid a (e - a) mid ys ≡ take a xs ++ (replicate (e - a) 0 ++ drop e xs)
cleared_part a e xs mid ys l room m h =
    let d : length (drop a mid) ≡ length xs - a = length-drop a mid ∙ ap (λ v. length v - a) m in
    let n = length-take-le (e - a) (drop a mid) (omega arith) in
    let at : a + (e - a) ≡ e = omega arith in
    let tail : post_of a (e - a) mid ≡ drop e xs = drop-drop (e - a) a mid ∙ ap₂ drop at m in
    cc

-- of three tests, none is met
last_of : (a b d : Bool) (x y z : Refusal) → first_of ((a, x) ∷ (b, y) ∷ (not d, z) ∷ []) ≡ None → d ≡ true
last_of true b d x y z e = absurd (let q : ◌≡◌ {A = ℕ} 0 1 = cc in omega arith)
last_of false true d x y z e = absurd (let q : ◌≡◌ {A = ℕ} 0 1 = cc in omega arith)
last_of false false false x y z e = absurd (let q : ◌≡◌ {A = ℕ} 0 1 = cc in omega arith)
last_of false false true x y z e = refl

module _ (bytes : List ℕ) where
  -- a circuit that passed is as long as its sizes say
  pub passed_long : circuit_refusal bytes ≡ None → length bytes ≡ 2 * words_in (sizes_of bytes)
  unfolding circuit_refusal
  passed_long e =
      let p = (or_else_none (size_refusal bytes) (or_else (gates_refusal (parts_of bytes) (sizes_of bytes).gates) (list_refusal (parts_of bytes))) e).0 in
      eqb-true (length bytes) (2 * words_in (sizes_of bytes)) (last_of (ltb (length bytes) 10) (not (within (sizes_of bytes))) (eqb (length bytes) (2 * words_in (sizes_of bytes))) _ _ _ p)

  pub copy_passes : (room : ℕ) → circuit_refusal bytes ≡ None → length bytes ≤ room → copy_refusal bytes room ≡ None
  copy_passes room e l = let t : ltb room (length bytes) ≡ false = le-ltb room (length bytes) l in rw (e, t)

  -- the rows cleared, as the code counts their place
  module _ (gates operands rows : ℕ) (eg : gates ≡ (sizes_of bytes).gates) (eo : operands ≡ (sizes_of bytes).operands) (er : rows ≡ (sizes_of bytes).rows) where
    abbrev from : ℕ
    from = 2 * (5 + 2 * gates + operands)

    pub copy_is : take from bytes ++ (replicate (from + 2 * rows - from) 0 ++ drop (from + 2 * rows) bytes) ≡ open_copy bytes
    unfolding open_copy
    copy_is = let e : from + 2 * rows - from ≡ 2 * rows = omega arith in cc
