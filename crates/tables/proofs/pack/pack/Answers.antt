use Rattle.std.proofs.Common.{◌≡◌, ℕ, ◌+◌, ◌*◌, ◌<◌, ◌≤◌, length, get_or, ap, ◌∙◌, inl, inr, arith}
use Rattle.std.proofs.lemmas.Bool.{cases_lt}
use Rattle.tables.specs.Level.{Packing}
use Rattle.tables.proofs.Masks.{next_row}
use Rattle.tables.proofs.Packing.{packing_row, packing_few, packing_all, packing_rest}
use Rattle.tables.proofs.pack.pack.Goals as goal

-- what two moves leave
few_left : (a b c : ℕ) → a < 24 → (8 ≤ a → b + 8 ≡ a) → (a < 8 → b ≡ a) → (8 ≤ b → c + 8 ≡ b) → (b < 8 → c ≡ b) → c < 8
few_left a b c l f g h k =
    elim (cases_lt b 8) [
      | inl j ↦ (let d = k j in omega arith)
      | inr j ↦ (let d = h j in elim (cases_lt a 8) [ inl i ↦ (let e = g i in absurd (omega arith)) | inr i ↦ (let e = f i in omega arith) ])
    ]

pub hold_row-all-requires-clause-low : goal.hold_row-all-requires-clause-low
hold_row-all-requires-clause-low c =
    packing_few (length c.args.fs.now) c.args.m (λ i. get_or c.args.fs.now i 0) c.loop-f.held.at c.loop-f.held.count c.loop-f.held.bits c.loop-f.bytes c.loop-f.invariant.0 c.loop-f.invariant.2

pub loop-f-preserved : goal.loop-f-preserved
loop-f-preserved c =
    let w = length c.args.fs.now in
    let m = c.args.m in
    let f : ℕ → ℕ = λ i. get_or c.args.fs.now i 0 in
    let i = c.loop-f.f-index in
    let inv = c.loop-f.invariant in
    let held = c.loop-f.held in
    let all = c.hold_row-all.result in
    let next = next_row i m in
    let row : Packing w m f all.at all.count all.bits c.loop-f.bytes =
    packing_row w m f held.at held.count held.bits i all.at all.count all.bits c.loop-f.bytes inv.0 inv.1 (omega arith) c.hold_row-all.ensures.at c.hold_row-all.ensures.count c.hold_row-all.ensures.bits in
    (c.move_byte-held.ensures.kept w m f (c.move_byte-rest.ensures.kept w m f row), omega arith, few_left all.count c.move_byte-rest.result.count _ (omega arith) c.move_byte-rest.ensures.fewer c.move_byte-rest.ensures.same c.move_byte-held.ensures.fewer c.move_byte-held.ensures.same)

pub returns-then-held-eq0 : goal.returns-then-held-eq0
returns-then-held-eq0 c =
    let w = length c.args.fs.now in
    let m = c.args.m in
    let held = c.loop-f.held in
    let e : c.loop-f.f-index * m ≡ w * m = let q : c.loop-f.f-index ≡ w = omega arith in ap (λ i. i * m) q in
    let s = c.loop-f.invariant.1 in
    packing_all w m (λ i. get_or c.args.fs.now i 0) held.at held.count held.bits c.loop-f.bytes c.loop-f.invariant.0 (omega arith) (c.loop-f.auto.bytes ∙ c.requires.room)

pub overflow_cast-bytes : goal.overflow_cast-bytes
overflow_cast-bytes c =
    let b = packing_few (length c.args.fs.now) c.args.m (λ i. get_or c.args.fs.now i 0) c.loop-f.held.at c.loop-f.held.count c.loop-f.held.bits c.loop-f.bytes c.loop-f.invariant.0 c.loop-f.invariant.2 in
    omega arith

pub returns : goal.returns
returns c =
    let w = length c.args.fs.now in
    let m = c.args.m in
    let held = c.loop-f.held in
    let e : c.loop-f.f-index * m ≡ w * m = let q : c.loop-f.f-index ≡ w = omega arith in ap (λ i. i * m) q in
    let s = c.loop-f.invariant.1 in
    packing_rest w m (λ i. get_or c.args.fs.now i 0) held.at held.count held.bits c.loop-f.bytes c.loop-f.invariant.0 (omega arith) (omega arith) c.loop-f.invariant.2 (c.loop-f.auto.bytes ∙ c.requires.room)
