-- One turn of the schedule's loop, and one of the rounds'. Assumes nothing.
use Rattle.std.proofs.Common.{◌≡◌, ℕ, suc, ◌+◌, ◌-◌, ◌*◌, ◌<◌, ◌≤◌, List, [], ◌∷◌, ◌++◌, length, get_or, take, drop, set, sym, refl, ap, ap₂, ◌∙◌, arith}
use Rattle.std.proofs.lemmas.List.{take_more_set, length-take-le, get_or-take}
use Rattle.std.proofs.lemmas.Simd.{get_or-chunk}
use Rattle.sha256.specs.declared.state.State.{State}
use Rattle.sha256.specs.Schedule.{word, extended}
use Rattle.sha256.specs.Compression.{round, after}
use Rattle.sha256.specs.Constants.{constants}

-- a word of the schedule looks only at the words before it
word_take : (w : List ℕ) (t : ℕ) → 16 ≤ t → word (take t w) t ≡ word w t
word_take w t k =
    let p2 : t - 2 < t = omega arith in
    let p7 : t - 7 < t = omega arith in
    let p15 : t - 15 < t = omega arith in
    let p16 : t - 16 < t = omega arith in
    simp (get_or-take t w (t - 2) 0 p2, get_or-take t w (t - 7) 0 p7, get_or-take t w (t - 15) 0 p15, get_or-take t w (t - 16) 0 p16)

next_at : (w : List ℕ) (t : ℕ) → t ≤ length w → 16 ≤ t → word (take t w) (length (take t w)) ≡ word w t
next_at w t h k = ap (λ (n : ℕ). word (take t w) n) (length-take-le t w h) ∙ word_take w t k

extended_more : (ws : List ℕ) (n k : ℕ) → n ≡ suc k → extended ws n ≡ extended (ws ++ (word ws (length ws) ∷ [])) k
unfolding extended
extended_more ws n k e = ap (λ (j : ℕ). extended ws j) e

pub schedule_all : (ws : List ℕ) → extended ws 0 ≡ ws
unfolding extended
schedule_all ws = refl

pub schedule_more : (w : List ℕ) (t v : ℕ) → t < length w → t < 64 → 16 ≤ t → v ≡ word w t
    → extended (take (t + 1) (set w t v)) (64 - (t + 1)) ≡ extended (take t w) (64 - t)
schedule_more w t v h u k e =
    let q : 64 - t ≡ suc (64 - (t + 1)) = omega arith in
    let le : t ≤ length w = omega arith in
    let m = take_more_set w t v h in
    let x = next_at w t le k in
    let s = extended_more (take t w) (64 - t) (64 - (t + 1)) q in
    cc

pub after_none : (s : State) (ws : List ℕ) → after s ws 0 ≡ s
unfolding after
after_none s ws = refl

after_suc : (s : State) (ws : List ℕ) (t : ℕ) → after s ws (suc t) ≡ round (after s ws t) (get_or constants t 0) (get_or ws t 0)
unfolding after
after_suc s ws t = refl

-- one round more, under any name of the next number
pub after_more : (s x r : State) (ws : List ℕ) (t n : ℕ) → x ≡ after s ws t → r ≡ round x (get_or constants t 0) (get_or ws t 0) → n ≡ suc t → r ≡ after s ws n
after_more s x r ws t n p q e =
    q ∙ ap (λ (y : State). round y (get_or constants t 0) (get_or ws t 0)) p ∙ sym (after_suc s ws t) ∙ ap (λ (k : ℕ). after s ws k) (sym e)

-- eight rounds more, with eight of the constants and eight of the words
module _ (start : State) (ws ks vs : List ℕ) (i : ℕ) (k : ks ≡ take 8 (drop (8 * i) constants)) (v : vs ≡ take 8 (drop (8 * i) ws)) where
  turn_more : (j : ℕ) (x r : State) → j < 8 → x ≡ after start ws (8 * i + j) → r ≡ round x (get_or ks j 0) (get_or vs j 0) → r ≡ after start ws (8 * i + (j + 1))
  turn_more j x r h p q =
      let a = ap (λ (l : List ℕ). get_or l j 0) k ∙ get_or-chunk (8 * i) 8 constants j 0 h in
      let b = ap (λ (l : List ℕ). get_or l j 0) v ∙ get_or-chunk (8 * i) 8 ws j 0 h in
      after_more start x r ws (8 * i + j) _ p (q ∙ ap₂ (λ (m n : ℕ). round x m n) a b) (omega arith)

  pub eight_more : (s0 s1 s2 s3 s4 s5 s6 s7 s8 : State) (n : ℕ) → s0 ≡ after start ws (8 * i)
      → s1 ≡ round s0 (get_or ks 0 0) (get_or vs 0 0)
      → s2 ≡ round s1 (get_or ks 1 0) (get_or vs 1 0)
      → s3 ≡ round s2 (get_or ks 2 0) (get_or vs 2 0)
      → s4 ≡ round s3 (get_or ks 3 0) (get_or vs 3 0)
      → s5 ≡ round s4 (get_or ks 4 0) (get_or vs 4 0)
      → s6 ≡ round s5 (get_or ks 5 0) (get_or vs 5 0)
      → s7 ≡ round s6 (get_or ks 6 0) (get_or vs 6 0)
      → s8 ≡ round s7 (get_or ks 7 0) (get_or vs 7 0)
      → n ≡ i + 1
      → s8 ≡ after start ws (8 * n)
  eight_more s0 s1 s2 s3 s4 s5 s6 s7 s8 n p q0 q1 q2 q3 q4 q5 q6 q7 e =
      let none : 8 * i ≡ 8 * i + 0 = omega arith in
      let all : 8 * i + 8 ≡ 8 * n = omega arith in
      let e0 = p ∙ ap (λ (t : ℕ). after start ws t) none in
      let e1 = turn_more 0 s0 s1 (omega arith) e0 q0 in
      let e2 = turn_more 1 s1 s2 (omega arith) e1 q1 in
      let e3 = turn_more 2 s2 s3 (omega arith) e2 q2 in
      let e4 = turn_more 3 s3 s4 (omega arith) e3 q3 in
      let e5 = turn_more 4 s4 s5 (omega arith) e4 q4 in
      let e6 = turn_more 5 s5 s6 (omega arith) e5 q5 in
      let e7 = turn_more 6 s6 s7 (omega arith) e6 q6 in
      let e8 = turn_more 7 s7 s8 (omega arith) e7 q7 in
      e8 ∙ ap (λ (t : ℕ). after start ws t) all
