use Rattle.std.proofs.Common.{◌≡◌, ℕ, ◌/◌, ◌≤◌, ◌++◌, length, sym, ap, ◌∙◌, arith, rules}
use Rattle.sha256.specs.declared.state.State.{State}
use Rattle.sha256.specs.Constants.{initial}
use Rattle.sha256.specs.Padding.{padding}
use Rattle.sha256.specs.Digest.{hashed, output}
use Rattle.sha256.proofs.Tail.{blank_front, length_front}
use Rattle.sha256.proofs.Blocks.{digest_split}
use Rattle.sha256.proofs.digest_of_parts.Goals as goal

pub finish-requires : goal.finish-requires
finish-requires c =
    let end = c.padded_length-end.result in
    let within : end ≤ 128 = omega arith in
    record { short = search rules; room = length_front end within ∙ c.padded_length-end.ensures; zero = blank_front end within }

pub returns : goal.returns
returns c =
    let body = c.args.body.now in
    let rest = c.args.rest.now in
    let tail = rest ++ padding c.args.total in
    let before : State = hashed initial body (length body / 64) in
    let after : State → State = λ s. hashed s tail (length tail / 64) in
    let absorbed : c.absorb-state.result ≡ before = c.absorb-state.ensures in
    let last : c.finish.result ≡ after before = ◌∙◌ {b = after c.absorb-state.result} c.finish.ensures (ap after absorbed) in
    c.write.ensures ∙ ap output last ∙ digest_split body rest tail c.requires.whole (ap (λ (n : ℕ). rest ++ padding n) (sym c.requires.all))
