-- Step 2 of the table gate, level by level. Assumes nothing.
use Rattle.std.proofs.Common.{◌≡◌, ℕ, zero, suc, ◌+◌, ◌-◌, ◌*◌, ◌/◌, ◌%◌, ◌^◌, ◌<◌, ◌≤◌, Bool, true, false, cond, List, ◌++◌, length, take, drop, sym, refl, ap, ◌∙◌, ap₂, mul-le-mul_right, add-mul, mul-le-mul_left, one-mul, add-one, arith, pow_mono}
use Rattle.std.proofs.lemmas.Nat.{one_shl}
use Rattle.std.proofs.lemmas.List.{get_or_append_left, length-take-le}
use Rattle.gates.specs.Tweak.{tweak}
use Rattle.labels.specs.Kind.{Kind, times}
use Rattle.labels.specs.Numbers.{bit}
use Rattle.labels.specs.Lists.{places}
use Rattle.tables.specs.Table.{sum, chosen, masked, picked, halved, taken, seen, found}
use Rattle.tables.specs.Level.{Holds}
use Rattle.tables.proofs.Numbering.{fits_eight}
use Rattle.labels.proofs.Numbers.{two_pow}
use Rattle.tables.proofs.Parts.{front_at}
use Rattle.tables.proofs.Sums.{sum_ext}

-- a level is twice the next
pub twice_next : (n d : ℕ) → d < n → 2 ^ (n - d) ≡ 2 ^ (n - suc d) + 2 ^ (n - suc d)
twice_next n d l = let e : n - d ≡ suc (n - suc d) = omega arith in ap (λ k. 2 ^ k) e ∙ two_pow (n - suc d)

pub level_within : (n d : ℕ) → 2 ^ (n - d) ≤ 2 ^ n
level_within n d = pow_mono {i = n - d} {j = n} (omega arith)

pub next_row : (d m : ℕ) → (d + 1) * m ≡ d * m + m
next_row d m = add-mul d 1 m ∙ ap (λ k. d * m + k) (one-mul m)

pub rows_within : (d n m : ℕ) → d < n → d * m + m ≤ n * m
rows_within d n m l = let h : (d + 1) * m ≤ n * m = mul-le-mul_right m (omega arith) in let e = next_row d m in omega arith

-- as many rows as bytes at most
pub rows_counted : (a w : ℕ) → 1 ≤ w → a ≤ a * w
rows_counted a w l = let h : a * 1 ≤ a * w = mul-le-mul_left a l in omega arith

-- the rows of a level, in bytes
pub rows_fit : (a d n m w : ℕ) → d < n → (a + (d * m + m)) * w ≤ (a + n * m) * w
rows_fit a d n m w l = let r = rows_within d n m l in mul-le-mul_right w (omega arith)

-- a level's places, as the code counts them
pub record Shifted (l n : ℕ) : Type 0 where
  pub is : 1 * 2 ^ l % 2 ^ 64 ≡ 2 ^ l
  pub within : 2 ^ l ≤ 2 ^ n
  pub few : 2 ^ n ≤ 256

pub shifted : (l n : ℕ) → l ≤ n → n ≤ 8 → Shifted l n
shifted l n h e = record { is = one_shl l 64 (omega arith); within = pow_mono {i = l} {j = n} h; few = fits_eight n e }

-- the halves of a level
pub level_twice : (l : ℕ) → 1 ≤ l → 2 ^ l ≡ 2 ^ (l - 1) + 2 ^ (l - 1)
level_twice l h = let e : l ≡ suc (l - 1) = omega arith in ap (λ k. 2 ^ k) e ∙ two_pow (l - 1)

module _ {L : Type 0} (K : Kind L) where
  pub chosen_ext : (j w : ℕ) (N M : ℕ → ℕ) (V W : ℕ → L) → ((i : ℕ) → i < w → N i ≡ M i) → ((i : ℕ) → i < w → V i ≡ W i) → chosen K j w N V ≡ chosen K j w M W
  chosen_ext j w N M V W h e = sum_ext K w _ _ (λ i l. ap₂ (λ a x. times K (bit j a) x) (h i l) (e i l))

  side_below : (b : Bool) (w i : ℕ) → i < w → cond b 1 0 * w + i < w + w
  side_below true w i l = omega arith
  side_below false w i l = omega arith

  -- other numbers, the same key, and V that is the same below 2 w
  pub masked_ext : (F G : L → ℕ → L) (gate l w : ℕ) (N M : ℕ → ℕ) (k k' : L) (b : Bool) (V W : ℕ → L) (j : ℕ) → F ≡ G → ((i : ℕ) → i < w → N i ≡ M i) → k ≡ k' → ((i : ℕ) → i < w + w → V i ≡ W i)
      → masked K F gate l w N k b V j ≡ masked K G gate l w M k' b W j
  masked_ext F G gate l w N M k k' b V W j f h e v =
      ap₂ K.xor (chosen_ext j w N M (λ i. V (cond b 1 0 * w + i)) (λ i. W (cond b 1 0 * w + i)) h (λ i g. v (cond b 1 0 * w + i) (side_below b w i g))) (ap₂ (λ H y. H y (tweak gate (512 + 16 * l + j))) f e)

  -- the same from parts of the numbers and of V
  pub masked_part : (F G : L → ℕ → L) (gate l w u : ℕ) (N M : ℕ → ℕ) (k k' : L) (b : Bool) (V W : ℕ → L) (j : ℕ) (r : L) → G ≡ F → u ≡ w → k' ≡ k
      → ((i : ℕ) → i < w → M i ≡ N i) → ((i : ℕ) → i < w → W i ≡ V (cond b 1 0 * w + i))
      → r ≡ K.xor (chosen K j u M W) (G k' (tweak gate (512 + 16 * l + j))) → r ≡ masked K F gate l w N k b V j
  masked_part F G gate l w u N M k k' b V W j r f eu e h v er =
      er ∙ ap₂ K.xor (ap (λ n. chosen K j n M W) eu ∙ chosen_ext j w M N W (λ i. V (cond b 1 0 * w + i)) h v) (ap₂ (λ H y. H y (tweak gate (512 + 16 * l + j))) f e)

  pub halved_more : (n d w : ℕ) (V : ℕ → L) (v u : List L) → d < n → w ≡ 2 ^ (n - suc d) → Holds K (2 ^ (n - d)) (halved K n V d) v
      → Holds K w (λ i. K.xor (places K v i) (places K v (i + w))) u → Holds K (2 ^ (n - (d + 1))) (halved K n V (d + 1)) u
  halved_more n d w V v u l e h s i g =
      let q : n - (d + 1) ≡ n - suc d = omega arith in
      let p : 2 ^ (n - (d + 1)) ≡ 2 ^ (n - suc d) = ap (λ k. 2 ^ k) q in
      let two = twice_next n d l in
      s i (omega arith)
      ∙ ap₂ K.xor (h i (omega arith)) (h (i + w) (omega arith) ∙ ap (λ k. halved K n V d (i + k)) e)
      ∙ ap (λ k. halved K n V k i) (sym (add-one d))

  -- the same where u is what is left of the first p places of v, and the rest is as it was
  pub halved_front : (n d p : ℕ) (V : ℕ → L) (v u : List L) → d < n → p ≡ 2 ^ (n - d) → p ≤ length v → length u ≡ length (take p v) → Holds K (2 ^ (n - d)) (halved K n V d) v
      → Holds K (length (take p v) / 2) (λ i. K.xor (places K (take p v) i) (places K (take p v) (i + length (take p v) / 2))) u → Holds K (2 ^ (n - (d + 1))) (halved K n V (d + 1)) (u ++ drop p v)
  halved_front n d p V v u l e h eu hv s i g =
      let two = twice_next n d l in
      let q : 2 ^ (n - (d + 1)) ≡ 2 ^ (n - suc d) = let z : n - (d + 1) ≡ n - suc d = omega arith in ap (λ k. 2 ^ k) z in
      let t = length-take-le p v h in
      get_or_append_left u (drop p v) K.zero i (omega arith)
      ∙ halved_more n d (2 ^ (n - suc d)) V v u l refl hv
      (λ k r. s k (omega arith) ∙ ap₂ K.xor (front_at p v k k K.zero (omega arith) refl) (front_at p v (k + length (take p v) / 2) (k + 2 ^ (n - suc d)) K.zero (omega arith) (omega arith))) i g

  -- one level of step 2 for the evaluator, from its u numbers N and its places W of V
  pub taken_level : (F F' F'' : L → ℕ → L) (gate m n d l u first : ℕ) (E V : ℕ → L) (key : L) (v : List L) (N : ℕ → ℕ) (W : ℕ → L) (rows : ℕ → L) (j : ℕ) → d < n → l ≡ n - d → F' ≡ F → F'' ≡ F
      → u ≡ 2 ^ (l - 1) → ((i : ℕ) → i < u → N i ≡ picked K F' gate m u key i) → key ≡ E (n - suc d) → Holds K (2 ^ (n - d)) (halved K n V d) v → ((i : ℕ) → i < 2 ^ l → W i ≡ places K v i)
      → K.xor (masked K F'' gate l (2 ^ (l - 1)) N key (K.colour key) W j) (times K (K.colour key) (rows (first + d * m + j))) ≡ taken K F gate m n (λ d j. rows (first + (d * m + j))) E V d j
  taken_level F F' F'' gate m n d l u first E V key v N W rows j h el f f' eu eN ek hv eW =
      let p : ℕ = n - suc d in
      let two = twice_next n d h in
      let q : l - 1 ≡ n - suc d = omega arith in
      let el₂ : 2 ^ l ≡ 2 ^ (n - d) = ap (λ k. 2 ^ k) el in
      let up : u ≡ 2 ^ (n - suc d) = eu ∙ ap (λ k. 2 ^ k) q in
      ap₂ (λ x y. K.xor x (times K (K.colour key) y))
      ((λ x. masked K F'' gate (el x) (2 ^ q x) N key (K.colour key) W j)
      ∙ masked_ext F'' F gate (n - d) (2 ^ p) N (picked K F gate m (2 ^ p) key) key key (K.colour key) W (halved K n V d) j f'
      (λ i g. eN i (omega arith) ∙ (λ x. picked K (f x) gate m (up x) key i)) refl (λ i g. eW i (omega arith) ∙ hv i (omega arith)))
      (ap rows (omega arith))
      ∙ ap (λ k. K.xor (masked K F gate (n - d) (2 ^ p) (picked K F gate m (2 ^ p) k) k (K.colour k) (halved K n V d) j) (times K (K.colour k) (rows (first + (d * m + j))))) ek

  pub sum_onto : (n : ℕ) (f : ℕ → L) (a b c r : L) → b ≡ K.xor a (sum K n f) → c ≡ f n → r ≡ K.xor b c → r ≡ K.xor a (sum K (n + 1) f)
  sum_onto n f a b c r eb ec er = er ∙ ap₂ K.xor eb ec ∙ K.assoc a (sum K n f) (f n) ∙ ap (λ k. K.xor a (sum K k f)) (sym (add-one n))

  pub halved_ext : (n : ℕ) (V W : ℕ → L) → ((i : ℕ) → i < 2 ^ n → V i ≡ W i) → (d : ℕ) → d ≤ n → (i : ℕ) → i < 2 ^ (n - d) → halved K n V d i ≡ halved K n W d i
  halved_ext n V W h zero l i g = let within = level_within n 0 in h i (omega arith)
  halved_ext n V W h (suc d) l i g =
      let two = twice_next n d l in
      ap₂ K.xor (halved_ext n V W h d (omega arith) i (omega arith)) (halved_ext n V W h d (omega arith) (i + 2 ^ (n - suc d)) (omega arith))

  pub taken_ext : (F : L → ℕ → L) (gate m n : ℕ) (masks : ℕ → ℕ → L) (E V W : ℕ → L) (d j : ℕ) → ((i : ℕ) → i < 2 ^ n → V i ≡ W i) → d < n → taken K F gate m n masks E V d j ≡ taken K F gate m n masks E W d j
  taken_ext F gate m n masks E V W d j h l =
      let two = twice_next n d l in
      ap (λ x. K.xor x (times K (K.colour (E (n - suc d))) (masks d j)))
      (masked_ext F F gate (n - d) (2 ^ (n - suc d)) (picked K F gate m (2 ^ (n - suc d)) (E (n - suc d))) (picked K F gate m (2 ^ (n - suc d)) (E (n - suc d))) (E (n - suc d)) (E (n - suc d)) (K.colour (E (n - suc d))) (halved K n V d) (halved K n W d) j refl (λ i g. refl) refl
      (λ i g. halved_ext n V W h d (omega arith) i (omega arith)))

  -- the evaluator's new wire, put together
  pub found_of : (F F' : L → ℕ → L) (gate m n j : ℕ) (rows : ℕ → L) (masks : ℕ → ℕ → L) (f : ℕ → ℕ) (E V : ℕ → L) (a r : L) → F' ≡ F → ((i : ℕ) → i < 2 ^ n → V i ≡ seen K F gate rows E n i)
      → a ≡ chosen K j (2 ^ n) f V → r ≡ K.xor a (sum K n (λ d. taken K F' gate m n masks E V d j)) → r ≡ found K F gate m n rows masks f E j
  found_of F F' gate m n j rows masks f E V a r e h ea er =
      er
      ∙ ap₂ K.xor (ea ∙ chosen_ext j (2 ^ n) f f V (seen K F gate rows E n) (λ i l. refl) h)
      (ap (λ G. sum K n (λ d. taken K G gate m n masks E V d j)) e ∙ sum_ext K n _ _ (λ d l. taken_ext F gate m n masks E V (seen K F gate rows E n) d j h l))
      ∙ K.comm _ _
