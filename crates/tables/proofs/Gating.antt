-- The table gate in bytes: it reads back, and it is sound. Assumes nothing.
use Rattle.std.proofs.Common.{◌≡◌, ℕ, suc, ◌+◌, ◌-◌, ◌*◌, ◌^◌, ◌<◌, ◌≤◌, List, length, drop, sym, refl, ap, ◌∙◌, arith}
use borrow.Rule.Slice.PartMut.{put_mid}
use Rattle.labels.specs.Kind.{Kind, times}
use Rattle.gates.proofs.Halves as halves
use Rattle.labels.specs.Numbers.{bit}
use Rattle.tables.specs.Table.{based, colours, hot, hot_row, mask_row, turned}
use Rattle.material.specs.Size.{labels_of}
use Rattle.tables.specs.Material.{packed, unpacked, row_bytes, mask_rows}
use Rattle.tables.specs.Gate as gates
use Rattle.tables.specs.All as AllGates
use Rattle.tables.proofs.Masks.{rows_within}
use Rattle.tables.proofs.Packing.{listed_ext, packed_ext, unpacked_bit}
use Rattle.tables.proofs.Placing.{part_front, drop_end}
use Rattle.tables.proofs.Reading.{hots_back, masks_back, table_back, written_by}
use Rattle.tables.proofs.Tables.{meets}

module _ {L : Type 0} (K : Kind L) (F : L → ℕ → L) (gate n m : ℕ) where
  module _ (s : ℕ) (Δ : L) (A : ℕ → L) (row : ℕ → ℕ) where
    abbrev B : ℕ → L
    B k = based K Δ (A k)

    abbrev hots : ℕ → L
    hots = hot_row K F gate Δ B

    abbrev masks : ℕ → ℕ → L
    masks = mask_row K F gate m n Δ B (hot K F gate Δ B n)

    abbrev f : ℕ → ℕ
    f = turned K F gate m n s Δ B row (colours K n A)

    pub reads_back : 1 ≤ n → gates.ReadsBack K F gate n m s Δ A row
    reads_back ln = record {
      hots = λ k l h. let q : suc (k - 1) ≡ k = omega arith in ap K.from (hots_back K n m hots masks f (k - 1) (omega arith)) ∙ K.back (hots (suc (k - 1))) ∙ ap hots q;
      masks = λ d l j h. ap K.from (masks_back K n m hots masks f d l j h) ∙ K.back (masks d j);
      table = λ i l j h. ap (λ bytes. bit j (unpacked m bytes i)) (table_back K n m hots masks f) ∙ unpacked_bit (2 ^ n) m f i j l h;
    }

    -- what the garbler's loops leave: the rows, and then the table from its place to the end
    pub material_by : (T k v : ℕ) (xs ys : List ℕ) (fs : ℕ → ℕ) → T ≡ labels_of n m * K.width → T + k ≡ length xs
        → ((i : ℕ) → i < n - 1 → row_bytes K i xs ≡ K.bytes (hots (suc i)))
        → ((d : ℕ) → d < n → (j : ℕ) → j < m → row_bytes K (n - 1 + (d * m + j)) xs ≡ K.bytes (masks d j))
        → ys ≡ packed v m fs → v ≡ 2 ^ n → ((i : ℕ) → i < 2 ^ n → fs i ≡ f i)
        → put_mid T k xs ys ≡ gates.material K F gate n m s Δ A row
    material_by T k v xs ys fs eT eL hh hm ey ev ef =
        written_by K n m hots masks f (put_mid T k xs ys)
        (λ i l. before i (omega arith) ∙ hh i l)
        (λ d l j h. (let r = rows_within d n m l in before (n - 1 + (d * m + j)) (omega arith)) ∙ hm d l j h)
        (ap (λ t. drop t (put_mid T k xs ys)) (sym eT) ∙ drop_end T k xs ys eL ∙ ey ∙ packed_ext v (2 ^ n) m fs f ev ef)
      where
        before : (i : ℕ) → i < labels_of n m → row_bytes K i (put_mid T k xs ys) ≡ row_bytes K i xs
        before i l = let r = rows_within i (labels_of n m) K.width l in part_front T (i * K.width) K.width xs _ (omega arith) (omega arith)

  pub gate_meets : (bytes : List ℕ) (E : ℕ → L) (new : List L) → 1 ≤ n → new ≡ gates.evaluated K F gate n m bytes E → gates.Meets K F gate n m bytes E new
  gate_meets bytes E new ln e s Δ A row a hΔ hE eb =
      let back = reads_back s Δ A row ln in
      e ∙ ap (λ bs. gates.evaluated K F gate n m bs E) eb
      ∙ listed_ext m _ _ (λ j l. meets K F gate m n j _ E (mask_rows K n m (gates.material K F gate n m s Δ A row)) _ s Δ A row a ln hΔ hE back.hots (λ d h. back.masks d h j l) (λ i h. back.table i h j l))

module _ {L : Type 0} (K : Kind L) where
  pub table_sound : gates.Sound K
  table_sound F gate n m s Δ A row a ln hΔ =
      gate_meets K F gate n m (gates.material K F gate n m s Δ A row) (λ k. K.xor (A k) (times K (a k) Δ)) _ ln refl s Δ A row a hΔ (λ k l. refl) refl

  pub sound : AllGates.Sound K
  sound = record {
    xor = halves.xor_sound K;
    half = halves.sound K;
    table = table_sound;
    readable = λ F gate n m s Δ A row ln. reads_back K F gate n m s Δ A row ln;
  }
