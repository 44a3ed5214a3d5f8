use Rattle.std.proofs.Common.{◌≡◌, ℕ, ◌+◌, ◌-◌, ◌*◌, length, take, drop, sym, ap, ◌∙◌, ap₂, arith}
use Rattle.std.proofs.lemmas.List.{take_rest}
use Rattle.std.proofs.lemmas.Result.{err_from_is_err_and}
use Rattle.circuit.specs.Header.{sizes_of, within, words_in}
use Rattle.circuit.specs.declared.sizes.Sizes.{Sizes}
use Rattle.listing.specs.Worksheet.{circuit_end}
use Rattle.listing.proofs.Inputs.{input_short, input_size, input_length, input_passes, front_sizes, bits_count, seed_count}
use Rattle.listing.proofs.input.cut_input.Goals as goal

pub returns-in_err-sizes : goal.returns-in_err-sizes
returns-in_err-sizes c =
    let p = err_from_is_err_and c.from_residual.result c.from_residual.ensures.1 in
    let e = c.in_err-sizes.ensures in
    rw (p.1, p.2, e.0) (input_short c.args.input.now e.1)

pub returns-then-not-within_limits : goal.returns-then-not-within_limits
returns-then-not-within_limits c =
    let e = c.in_ok-sizes.ensures in
    input_size c.args.input.now e.0 (sym (c.if-not-within_limits.ensures ∙ ap within e.1))

-- the code's sum is the definition's
sum_of : (s t : Sizes) (w i : ℕ) → s ≡ t → w ≡ words_in s → i ≡ s.inputs → 2 * w + 2 + i ≡ 2 * words_in t + 2 + t.inputs
sum_of s t w i e f g = ap₂ (λ (a b : ℕ). 2 * a + 2 + b) (f ∙ ap words_in e) (g ∙ ap (λ (z : Sizes). z.inputs) e)

pub returns-then-input-end : goal.returns-then-input-end
returns-then-input-end c =
    let e = c.in_ok-sizes.ensures in
    let n = sum_of c.in_ok-sizes.sizes (sizes_of c.args.input.now) _ _ e.1 c.words_of-end.ensures c.from.ensures in
    input_length c.args.input.now e.0 (sym (c.if-not-within_limits.ensures ∙ ap within e.1)) (λ h. c.if-input-end.true (h ∙ sym n))

pub returns : goal.returns
returns c =
    let e = c.in_ok-sizes.ensures in
    let ok = sym (c.if-not-within_limits.ensures ∙ ap within e.1) in
    let n = sum_of c.in_ok-sizes.sizes (sizes_of c.args.input.now) _ _ e.1 c.words_of-end.ensures c.from.ensures in
    let w : 2 * c.words_of-end.result ≡ circuit_end c.args.input.now = ap (λ (k : ℕ). 2 * k) (c.words_of-end.ensures ∙ ap words_in e.1) in
    let two : 2 * c.words_of-end.result + 2 - 2 * c.words_of-end.result ≡ 2 = omega arith in
    let w0 : 2 * c.words_of-end.result - 0 ≡ circuit_end c.args.input.now = omega arith in
    let l = c.if-input-end.false ∙ n in
    let seed = ap₂ (λ (k j : ℕ). take k (drop j c.args.input.now)) two w in
    record {
      passes = input_passes c.args.input.now e.0 ok l;
      sizes = e.1;
      limits = ok;
      circuit = ap (λ (k : ℕ). take k c.args.input.now) w0;
      seed = seed;
      bits = take_rest c.args.input.now (2 * c.words_of-end.result + 2) ∙ ap (λ (k : ℕ). drop (k + 2) c.args.input.now) w;
      front = front_sizes c.args.input.now;
      count = bits_count c.args.input.now l;
      seed_long = ap length seed ∙ seed_count c.args.input.now l;
    }
