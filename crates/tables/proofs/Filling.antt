-- Lists of labels that a loop fills. Assumes nothing.
use Rattle.std.proofs.Common.{◌≡◌, ℕ, ◌+◌, ◌<◌, ◌≤◌, List, length, get_or, set, sym, ap, ◌∙◌, inl, inr, arith, get_or-set_other, get_or-set_same}
use Rattle.std.proofs.lemmas.Bool.{cases_eq}
use Rattle.labels.specs.Kind.{Kind}
use Rattle.labels.specs.Lists.{places}
use Rattle.tables.specs.Level.{Holds}

-- v is V from the place n on
abbrev pub TailKept : {L : Type 0} → Kind L → ℕ → List L → List L → Type 0
TailKept K n V v = (i : ℕ) → n ≤ i → places K v i ≡ places K V i

module _ {L : Type 0} (K : Kind L) where
  pub holds_none : (n : ℕ) (f : ℕ → L) (v : List L) → n ≡ 0 → Holds K n f v
  holds_none n f v e i l = absurd (omega arith)

  pub holds_more : (n m : ℕ) (f : ℕ → L) (v : List L) (x : L) → Holds K n f v → n < length v → x ≡ f n → m ≡ n + 1 → Holds K m f (set v n x)
  holds_more n m f v x h l e q i g =
      elim (cases_eq i n) [
        | inl p ↦ ap (places K (set v n x)) p ∙ get_or-set_same v n x K.zero l ∙ e ∙ ap f (sym p)
        | inr p ↦ get_or-set_other v n i x K.zero p ∙ h i (omega arith)
      ]

  pub past_set : (n m k : ℕ) (V v : List L) (x : L) → TailKept K n V v → k < m → n ≤ m → TailKept K m V (set v k x)
  past_set n m k V v x h l g i r = get_or-set_other v k i x K.zero (omega arith) ∙ h i (omega arith)

-- from the front
pub there_first : {X : Type 0} (d : X) (n : ℕ) (f : ℕ → X) (v : List X) (x : X) → ((i : ℕ) → i < n → get_or v i d ≡ f i) → n < length v → x ≡ f n
    → (i : ℕ) → i < n + 1 → get_or (set v n x) i d ≡ f i
there_first d n f v x h l e i g =
    elim (cases_eq i n) [
      | inl p ↦ ap (λ k. get_or (set v n x) k d) p ∙ get_or-set_same v n x d l ∙ e ∙ ap f (sym p)
      | inr p ↦ get_or-set_other v n i x d p ∙ h i (omega arith)
    ]
