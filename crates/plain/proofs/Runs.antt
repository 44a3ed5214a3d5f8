-- An accepted evaluation is a plain run. Assumes nothing.
use Rattle.std.proofs.Common.{◌≡◌, ℕ, suc, ◌+◌, ◌<◌, Bool, false, List, length, get_or, None, sym, ap, ◌∙◌, subst, arith}
use Rattle.labels.specs.Numbers.{digit}
use Rattle.circuit.specs.Forms.{makes, reads}
use Rattle.circuit.specs.Parts.{Parts}
use Rattle.circuit.specs.Gates.{form_of, operand_of, output_of, made_before, wires_in}
use Rattle.circuit.specs.Passed.{Passed}
use Rattle.wires.specs.Wires.{Filled}
use Rattle.plain.specs.Plain.{bit_in, plain_bit, plain_refusal, PlainRun, Evaluated}
use Rattle.circuit.proofs.Bounds.{each_below}
use Rattle.circuit.proofs.Circuits.{form_known, each_in_order, outputs_pass}
use Rattle.plain.proofs.Plains.{gate_same, bits_run, bits_given}
use Rattle.circuit.proofs.GateParts.{made_within}

module _ (bytes bits : List ℕ) (c : Parts) (w : ℕ) (old new : List Bool) (outs : List ℕ) (p : Passed bytes c w) (filled : Filled (wires_in c) (plain_bit c (bit_in bits)) old new) where
  plain_run : ((o : ℕ) → o < c.sizes.outputs → get_or outs o 0 ≡ digit (get_or new (output_of c o) false)) → PlainRun c bits new outs
  plain_run given = record {
    inputs = λ i h.
        let l = made_within c 0 (omega arith) in
        filled.front i false (omega arith) ∙ bits_given c (bit_in bits) i h;
    gates = λ g j h l.
        let m : made_before c (suc g) ≡ made_before c g + makes (form_of c g) = omega arith in
        let most = made_within c (suc g) h in
        filled.front (made_before c g + j) false (omega arith)
        ∙ bits_run c (bit_in bits) (form_known bytes c w p) (each_in_order bytes c w p) g j h l
        ∙ gate_same c g (form_known bytes c w p g h) _ _ j (λ i k.
        let below : operand_of c g i < made_before c g = each_below (operand_of c g) (reads (form_of c g)) (made_before c g) (each_in_order bytes c w p g h) i k in
        sym (filled.front (operand_of c g i) false (omega arith)));
    outs = given;
  }

  out_bits : ((o : ℕ) → o < c.sizes.outputs → get_or outs o 0 ≡ digit (get_or new (output_of c o) false)) → (o : ℕ) → o < c.sizes.outputs → get_or outs o 0 ≡ digit (plain_bit c (bit_in bits) (output_of c o))
  out_bits given o h =
      let below : output_of c o < wires_in c = each_below (output_of c) c.sizes.outputs (wires_in c) (outputs_pass bytes c w p) o h in
      given o h ∙ ap digit (filled.front (output_of c o) false below)

pub evaluated : (bytes bits : List ℕ) (c : Parts) (w : ℕ) (old new : List Bool) (outs : List ℕ) (n : ℕ) → length outs ≡ n → plain_refusal bytes bits (length old) n ≡ None → Passed bytes c w
    → Filled w (plain_bit c (bit_in bits)) old new → ((o : ℕ) → o < c.sizes.outputs → get_or outs o 0 ≡ digit (get_or new (output_of c o) false)) → Evaluated bytes bits old new outs
evaluated bytes bits c w old new outs n e accepted p made given =
    let same = p.parts in
    let filled = subst (λ (k : ℕ). Filled k (plain_bit c (bit_in bits)) old new) p.count made in
    record {
      accepted = ap (plain_refusal bytes bits (length old)) e ∙ accepted;
      wires = subst (λ (q : Parts). Filled (wires_in q) (plain_bit q (bit_in bits)) old new) same filled;
      outs = subst (λ (q : Parts). (o : ℕ) → o < q.sizes.outputs → get_or outs o 0 ≡ digit (plain_bit q (bit_in bits) (output_of q o))) same (out_bits bytes bits c w old new outs p filled given);
      run = subst (λ (q : Parts). PlainRun q bits new outs) same (plain_run bytes bits c w old new outs p filled given);
    }
