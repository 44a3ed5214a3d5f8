-- What a label kind is: its operations and the laws they keep. Assumes nothing.
use Rattle.std.specs.Prelude.{◌≡◌, ℕ, ◌^◌, ◌<◌, ◌≤◌, Bool, true, false, cond, not, List, length}

-- one or the other and not both
abbrev pub differs : Bool → Bool → Bool
differs true b = not b
differs false b = b

-- the widest label, in bytes
abbrev pub widest : ℕ
widest = 4096

pub record Kind (L : Type 0) : Type 0 where
  -- the operations
  pub zero : L
  pub xor : L → L → L
  pub colour : L → Bool
  pub raised : L → L
  pub same : L → L → Bool
  -- the m lowest bits, as a number
  pub low : ℕ → L → ℕ
  -- the width in bytes, a label's bytes, and the label of any bytes
  pub width : ℕ
  pub bytes : L → List ℕ
  pub from : List ℕ → L
  -- the laws of ⊕
  pub assoc : (x y z : L) → xor (xor x y) z ≡ xor x (xor y z)
  pub comm : (x y : L) → xor x y ≡ xor y x
  pub right : (x : L) → xor x zero ≡ x
  pub self : (x : L) → xor x x ≡ zero
  pub colours : (x y : L) → colour (xor x y) ≡ differs (colour x) (colour y)
  -- sameness is yes exactly for equal labels
  pub same_only : (x y : L) → same x y ≡ true → x ≡ y
  pub same_self : (x : L) → same x x ≡ true
  pub low_below : (m : ℕ) (x : L) → m ≤ 16 → low m x < 2 ^ m
  pub width_least : 1 ≤ width
  pub width_most : width ≤ widest
  -- a written label has the kind's width and reads back as itself
  pub bytes_long : (x : L) → length (bytes x) ≡ width
  pub back : (x : L) → from (bytes x) ≡ x

-- b·L: the label where the bit is 1, and the zero label where it is 0
abbrev pub times : {L : Type 0} → Kind L → Bool → L → L
times K b x = cond b x K.zero
