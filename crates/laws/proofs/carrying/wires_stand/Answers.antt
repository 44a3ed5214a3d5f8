use Rattle.std.proofs.Common.{ℕ, Bool, ap, ◌∙◌}
use Rattle.labels.specs.Kind.{Kind, times}
use Rattle.hashes.specs.Draws.{offset}
use Rattle.circuit.specs.Parts.{Parts, parts_of}
use Rattle.laws.specs.Carried.{AllCarried}
use Rattle.laws.proofs.Ordered.{Ordered}
use Rattle.laws.proofs.Bits.{plain_input, plain_fresh}
use Rattle.laws.proofs.Order.{ordered_check}
use Rattle.laws.proofs.Zeros.{zero_input, zero_fresh, label_input, label_fresh}
use Rattle.laws.proofs.carrying.wires_stand.Goals as goal

all_carried : {L : Type 0} (K : Kind L) (F : L → ℕ → L) (seed : L) (x : ℕ → Bool) (c : Parts) → Ordered c → AllCarried K F seed x c
all_carried {L} K F seed x c o = record {
  zeros = record { inputs = zero_input K F seed c; gates = λ g j h l. zero_fresh K F seed c g j o h l };
  labels = record {
    inputs = λ i h. label_input K F seed c x i h ∙ ap (λ (z : L). K.xor z (times K (x i) (offset F seed K))) (zero_input K F seed c i h);
    gates = λ g j h l. label_fresh K F seed c x g j o h l;
  };
  bits = record { inputs = plain_input c x; gates = λ g j h l. plain_fresh c x g j o h l };
}

pub returns : goal.returns
returns g c bytes passes F seed x = all_carried g.L.Label.kind F seed x (parts_of bytes) (ordered_check bytes passes)
