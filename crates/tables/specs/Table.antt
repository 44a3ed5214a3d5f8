-- The lookup-table gate over any label kind and any function F of a label and a tweak, as gate g. Assumes nothing.
-- A list of labels, as V or the operands, is a function of the place.
use Rattle.std.specs.Prelude.{ℕ, zero, suc, ◌+◌, ◌-◌, ◌*◌, ◌%◌, ◌^◌, Bool, true, false, cond, ◌==◌, bit_xor, nat_lt}
use Rattle.labels.specs.Kind.{Kind, times}
use Rattle.gates.specs.Tweak.{tweak}
use Rattle.labels.specs.Numbers.{bit, number, digit}
use Rattle.tables.specs.Mixed.{mixed}

module _ {L : Type 0} (K : Kind L) where
  -- the ⊕ of f 0 to f (n - 1)
  abbrev pub sum : ℕ → (ℕ → L) → L
  sum zero f = K.zero
  sum (suc n) f = K.xor (sum n f) (f n)

  -- the ⊕ of V[i] over the i below w whose number has bit j
  abbrev pub chosen : ℕ → ℕ → (ℕ → ℕ) → (ℕ → L) → L
  chosen j w p V = sum w (λ i. times K (bit j (p i)) (V i))

  -- the wire's label of colour 0: B = A ⊕ α·Δ
  abbrev pub based : L → L → L
  based Δ A = K.xor A (times K (K.colour A) Δ)

  -- V[i + w] is c(i), and V[i] becomes c(i) ⊕ V[i]
  abbrev pub grown : ℕ → (ℕ → L) → (ℕ → L) → ℕ → L
  grown w V c i = cond (nat_lt i w) (K.xor (c i) (V i)) (c (i - w))

  -- c with its place x filled by whole ⊕ all other c
  abbrev pub filled : ℕ → ℕ → L → (ℕ → L) → ℕ → L
  filled w x whole c i = cond (i == x) (K.xor whole (sum w (λ k. cond (k == x) K.zero (c k)))) (c i)

  -- the number of the colours of the first n labels: α of the zero labels, x of the evaluator's
  abbrev pub colours : ℕ → (ℕ → L) → ℕ
  colours n E = number n (λ k. K.colour (E k))

  -- V, of 2^n places, after d halvings: V[i] becomes V[i] ⊕ V[i + half]
  abbrev pub halved : ℕ → (ℕ → L) → ℕ → ℕ → L
  halved n V zero i = V i
  halved n V (suc d) i = K.xor (halved n V d i) (halved n V d (i + 2 ^ (n - suc d)))

  module _ (F : L → ℕ → L) (g : ℕ) where
    -- Step 1. One-hot. c(i) is F of V[i] at the point w + i, where V has w = 2^j places
    abbrev pub hashed : ℕ → (ℕ → L) → ℕ → L
    hashed w V i = F (V i) (tweak g (w + i))

    -- the garbler's V of 2^j places, once the wires below j are in
    abbrev pub hot : L → (ℕ → L) → ℕ → ℕ → L
    hot Δ B zero i = K.zero
    hot Δ B (suc zero) i = cond (i == 0) (K.xor (B 0) Δ) (B 0)
    hot Δ B (suc (suc j)) i = grown (2 ^ suc j) (hot Δ B (suc j)) (hashed (2 ^ suc j) (hot Δ B (suc j))) i

    -- the row of wire j: Bj ⊕ all c(i)
    abbrev pub hot_row : L → (ℕ → L) → ℕ → L
    hot_row Δ B j = K.xor (B j) (sum (2 ^ j) (hashed (2 ^ j) (hot Δ B j)))

    -- the evaluator's V, from the rows and its labels: it lacks c(i) at its own place only
    abbrev pub seen : (ℕ → L) → (ℕ → L) → ℕ → ℕ → L
    seen rows E zero i = K.zero
    seen rows E (suc zero) i = E 0
    seen rows E (suc (suc j)) i =
        grown (2 ^ suc j) (seen rows E (suc j)) (filled (2 ^ suc j) (colours (suc j) E) (K.xor (rows (suc j)) (E (suc j))) (hashed (2 ^ suc j) (seen rows E (suc j)))) i

    -- S(b,j) ⊕ M(b,j) at level l, where w = 2^(l-1), from the numbers N = h(b,·) and the key K(b)
    abbrev pub masked : ℕ → ℕ → (ℕ → ℕ) → L → Bool → (ℕ → L) → ℕ → L
    masked l w N key b V j = K.xor (chosen j w N (λ i. V (digit b * w + i))) (F key (tweak g (512 + 16 * l + j)))

    -- the same for the garbler: both halves of N, and the keys K(b) = B ⊕ b·Δ
    abbrev pub level : ℕ → ℕ → L → L → (ℕ → ℕ) → (ℕ → L) → Bool → ℕ → L
    level l w Δ B N V b j = masked l w (λ i. N (digit b * w + i)) (K.xor B (times K b Δ)) b V j

    module _ (m : ℕ) where
      -- Step 2. Random function, at a level l, where w = 2^(l-1): h(b,i) under the key K(b)
      abbrev pub picked : ℕ → L → ℕ → ℕ
      picked w key i = K.low m (F key (tweak g (256 + w + i)))

      abbrev pub share : ℕ → ℕ → L → Bool → (ℕ → L) → ℕ → L
      share l w key b V j = masked l w (picked w key) key b V j

      module _ (n : ℕ) where
        -- after d halvings, at the level l = n - d: S(b,j) ⊕ M(b,j) for the garbler's b
        abbrev pub given : L → (ℕ → L) → (ℕ → L) → ℕ → Bool → ℕ → L
        given Δ B V d b j = share (n - d) (2 ^ (n - suc d)) (K.xor (B (n - suc d)) (times K b Δ)) b (halved n V d) j

        -- the row for j: S(0,j) ⊕ M(0,j) ⊕ S(1,j) ⊕ M(1,j)
        abbrev pub mask_row : L → (ℕ → L) → (ℕ → L) → ℕ → ℕ → L
        mask_row Δ B V d j = K.xor (given Δ B V d false j) (given Δ B V d true j)

        -- the evaluator's part: S(b,j) ⊕ M(b,j) ⊕ b·row, under the key that it has
        abbrev pub taken : (ℕ → ℕ → L) → (ℕ → L) → (ℕ → L) → ℕ → ℕ → L
        taken rows E V d j =
            K.xor (share (n - d) (2 ^ (n - suc d)) (E (n - suc d)) (K.colour (E (n - suc d))) (halved n V d) j) (times K (K.colour (E (n - suc d))) (rows d j))

        -- Step 3. r(i), from the number s
        abbrev pub random : ℕ → L → (ℕ → L) → ℕ → ℕ
        random s Δ B i =
            bit_xor s (mixed n (λ d. picked (2 ^ (n - suc d)) (K.xor (B (n - suc d)) (times K (bit (n - suc d) i) Δ)) (i % 2 ^ (n - suc d))))

        -- Step 4. f'(i) = row(i ⊕ α) ⊕ r(i)
        abbrev pub turned : ℕ → L → (ℕ → L) → (ℕ → ℕ) → ℕ → ℕ → ℕ
        turned s Δ B row α i = bit_xor (row (bit_xor i α)) (random s Δ B i)

        -- the zero label of new wire j, for zero labels A: its parts, sj·Δ, and all V[i] whose f'(i) has bit j
        abbrev pub made : ℕ → L → (ℕ → L) → (ℕ → ℕ) → ℕ → L
        made s Δ A row j =
            let B : ℕ → L = λ k. based Δ (A k) in
            K.xor (K.xor (sum n (λ d. given Δ B (hot Δ B n) d false j)) (times K (bit j s) Δ))
            (chosen j (2 ^ n) (turned s Δ B row (colours n A)) (hot Δ B n))

        -- the evaluator's label of new wire j, for labels E, the rows of steps 1 and 2 and the numbers f'
        abbrev pub found : (ℕ → L) → (ℕ → ℕ → L) → (ℕ → ℕ) → (ℕ → L) → ℕ → L
        found rows masks f E j =
            K.xor (sum n (λ d. taken masks E (seen rows E n) d j)) (chosen j (2 ^ n) f (seen rows E n))
