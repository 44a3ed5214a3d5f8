use Rattle.std.proofs.Common.{◌≡◌, ap, ◌∙◌, rules}
use Rattle.circuit.specs.Parts.{Parts, parts_of}
use Rattle.circuit.specs.Gates.{wires_in}
use Rattle.circuit.specs.Check.{bytes_in}
use Rattle.circuit.specs.Lent.{parts_in}
use Rattle.exchange.specs.Course.{calls_in, course}
use Rattle.labels.specs.Lists.{listed}
use Rattle.exchange.proofs.room.Room.new.Goals as goal

pub returns : goal.returns
returns g c =
    let p : parts_in c.args.c.arrays ≡ parts_of c.args.circuit.now = c.requires.parts in
    let wires : c.from-wires.result ≡ wires_in (parts_of c.args.circuit.now) = c.from-wires.ensures ∙ c.args.c.counted ∙ ap wires_in p in
    let outputs : c.from-outputs.result ≡ (parts_of c.args.circuit.now).sizes.outputs = c.from-outputs.ensures ∙ ap (λ (q : Parts). q.sizes.outputs) p in
    let material : c.totals-material.result.bytes ≡ bytes_in g.L.Label.kind (parts_of c.args.circuit.now) (parts_of c.args.circuit.now).sizes.gates = ap (λ t. t.bytes) c.totals-material.ensures ∙ ap (λ (q : Parts). bytes_in g.L.Label.kind q q.sizes.gates) p in
    record {
      accepted = c.requires.accepted;
      seed_is = c.in_ok-to_vec.ensures.items_if_clones_equal (λ x y e. e);
      calls_are = c.in_ok-calls.ensures ∙ (λ i. listed (calls_in (p i).sizes) (course (p i).sizes (material i) c.args.bits.now));
      enough = record {
        copy_long = search rules;
        zeros_long = search rules;
        labels_long = search rules;
        sent_long = search rules;
        scratch_long = search rules;
        material_long = search rules;
        colours_long = search rules;
        outputs_long = search rules;
        lines_long = search rules;
      };
    }
