use Rattle.std.proofs.Common.{[], ap, ◌∙◌}
use Rattle.std.specs.List.{flat_map}
use Rattle.std.specs.Int.{w32, to_be_bytes}
use Rattle.std.proofs.lemmas.List.FromFn.{fill_by_all}
use Rattle.std.proofs.Common.{ℕ, List, ◌∷◌, get_or}
use Rattle.sha256.specs.Digest.{output}
use Rattle.sha256.proofs.write.Goals as goal

pub returns : goal.returns
unfolding output
returns c =
    let s = c.args.s in
    let words : List ℕ = s.a ∷ s.b ∷ s.c ∷ s.d ∷ s.e ∷ s.f ∷ s.g ∷ s.h ∷ [] in
    let map = c.map.ensures.items in
    let all = fill_by_all (λ (i : ℕ). to_be_bytes w32 (get_or words i 0)) c.map.result 8 [] map.long (λ i h. (map.at i 0 [] h).2.met) in
    c.copy_from_slice.ensures.after ∙ c.as_flattened.ensures.value ∙ ap (flat_map (λ (bytes : List ℕ). bytes)) all
