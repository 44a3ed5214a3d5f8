use Rattle.std.proofs.Common.{ap₂, ltb, ◌∙◌, length, ◌/◌}
use Rattle.labels.specs.Words.{word_at}
use Rattle.circuit.proofs.United.{united_below}
use Rattle.circuit.proofs.words.words_fit.Goals as goal

pub returns : goal.returns
returns c = ap₂ ltb (c.from.ensures ∙ c.united.ensures) c.two_to.ensures.power ∙ united_below (word_at c.args.bytes.now) (length c.args.bytes.now / 2) c.args.m
