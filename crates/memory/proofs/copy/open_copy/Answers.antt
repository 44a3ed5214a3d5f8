use Rattle.std.proofs.Common.{◌≡◌, ℕ, List, ◌++◌, length, drop, ap, ◌∙◌, arith}
use Rattle.std.proofs.lemmas.List.{length-take-le}
use Rattle.circuit.specs.Header.{sizes_of}
use Rattle.circuit.specs.Parts.{Parts}
use Rattle.memory.proofs.Copying.{passed_long, copy_passes, copy_is}
use Rattle.memory.proofs.copy.open_copy.Goals as goal

pub write_copy-requires : goal.write_copy-requires
write_copy-requires c =
    let bytes = c.args.circuit.now in
    let p = c.in_ok-s.ensures in
    let long = passed_long bytes p.passes in
    let gates : c.from.result ≡ (sizes_of bytes).gates = c.from.ensures ∙ ap (λ (q : Parts). q.sizes.gates) p.parts in
    let operands : c.from-2.result ≡ (sizes_of bytes).operands = c.from-2.ensures ∙ ap (λ (q : Parts). q.sizes.operands) p.parts in
    let rows : c.from-3.result ≡ (sizes_of bytes).rows = c.from-3.ensures ∙ ap (λ (q : Parts). q.sizes.rows) p.parts in
    let n = length-take-le (length bytes) c.args.out.now (omega arith) in
    record { long = omega arith; order = omega arith; within = omega arith }

pub returns : goal.returns
returns c =
    let bytes = c.args.circuit.now in
    let out = c.args.out.now in
    let p = c.in_ok-s.ensures in
    let gates : c.from.result ≡ (sizes_of bytes).gates = c.from.ensures ∙ ap (λ (q : Parts). q.sizes.gates) p.parts in
    let operands : c.from-2.result ≡ (sizes_of bytes).operands = c.from-2.ensures ∙ ap (λ (q : Parts). q.sizes.operands) p.parts in
    let rows : c.from-3.result ≡ (sizes_of bytes).rows = c.from-3.ensures ∙ ap (λ (q : Parts). q.sizes.rows) p.parts in
    record {
      accepted = copy_passes bytes (length out) p.passes (omega arith);
      copied = ap (λ (t : List ℕ). t ++ drop (length bytes) out) (c.write_copy.ensures ∙ copy_is bytes c.from.result c.from-2.result c.from-3.result gates operands rows);
      refused = tt;
      same = tt;
    }
