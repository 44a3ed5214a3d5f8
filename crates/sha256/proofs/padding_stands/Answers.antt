use Rattle.std.proofs.Common.{◌≡◌, ℕ, ◌%◌, List, length, arith}
use Rattle.std.proofs.lemmas.List.{length-append, length-replicate}
use Rattle.sha256.specs.Padding.{padded}
use Rattle.sha256.proofs.padding_stands.Goals as goal

whole : (m : List ℕ) → length (padded m) % 64 ≡ 0
unfolding padded
whole m = simp (length-append, length-replicate) (omega arith)

pub returns : goal.returns
returns c = λ m. record { whole = whole m; room = omega arith; least = λ k e. omega arith }
