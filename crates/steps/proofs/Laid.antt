-- Two labels written one behind the other. Assumes nothing.
use Rattle.std.proofs.Common.{◌≡◌, ℕ, ◌+◌, ◌*◌, List, ◌++◌, length, take, drop, ap, ◌∙◌, arith}
use Rattle.std.proofs.lemmas.List.{append-nil, drop_all, length-append, length-drop, take_at}
use Rattle.gates.specs.Bytes.{laid}

pub laid_two : (w v : ℕ) (a b old mid new : List ℕ) → length a ≡ w → length b ≡ w → length old ≡ 2 * w → v ≡ w → mid ≡ laid 0 a old → new ≡ laid v b mid → new ≡ a ++ b
laid_two w v a b old mid new ea eb eo ev em en =
    let tail : drop (0 + length a) old ≡ drop w old = ap (λ (k : ℕ). drop k old) (omega arith) in
    let m : mid ≡ a ++ drop w old = em ∙ ap (λ (t : List ℕ). a ++ t) tail in
    let long : length mid ≡ w + w = ap length m ∙ length-append a (drop w old) ∙ simp length-drop (omega arith) in
    let front : take v mid ≡ a = ap (take v) m ∙ take_at a (drop w old) v (omega arith) in
    let rest : b ++ drop (v + length b) mid ≡ b = ap (λ (t : List ℕ). b ++ t) (drop_all (v + length b) mid (omega arith)) ∙ append-nil b in
    en ∙ ap (λ (t : List ℕ). t ++ (b ++ drop (v + length b) mid)) front ∙ ap (λ (t : List ℕ). a ++ t) rest
