-- New wires that are lent as a part of the store. Assumes nothing.
use Rattle.std.proofs.Common.{◌≡◌, ℕ, ◌+◌, ◌-◌, ◌≤◌, List, length, get_or, take, drop, ap, ◌∙◌, arith}
use Rattle.std.proofs.lemmas.List.{length-drop, length-take-le}
use borrow.Rule.Slice.PartMut.{put_mid}
use Rattle.labels.specs.Kind.{Kind}
use Rattle.wires.specs.Wires.{Grown}
use Rattle.wires.proofs.Growth.{put_grown}
use Rattle.labels.specs.Lists.{places}

module _ {L : Type 0} (K : Kind L) (made m : ℕ) (wires : List L) (room : made + m ≤ length wires) where
  -- as many are lent as the gate makes
  pub lent_long : length (take (made + m - made) (drop made wires)) ≡ m
  lent_long =
      let d : length (drop made wires) ≡ length wires - made = length-drop made wires in
      let k : made + m - made ≡ m = omega arith in
      length-take-le (made + m - made) (drop made wires) (omega arith) ∙ k

  -- and once they are written, the wires have grown by them
  pub lent_grown : (new labels : List L) → new ≡ labels → length labels ≡ m → Grown made m (places K labels) wires (put_mid made (made + m - made) wires new)
  lent_grown new labels e long =
      let k : made + m - made ≡ m = omega arith in
      put_grown made m (made + m - made) (places K labels) wires new k (ap length e ∙ long) room K.zero (λ j h. ap (λ (xs : List L). get_or xs j K.zero) e)
