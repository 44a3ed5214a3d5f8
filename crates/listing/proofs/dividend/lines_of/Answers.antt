use Rattle.std.proofs.Common.{◌≡◌, ℕ, ◌-◌, List, ◌++◌, length, get_or, sym, ap, ◌∙◌}
use Rattle.std.proofs.lemmas.List.{append_assoc}
use Rattle.settlement.specs.Lines.{line_at}
use Rattle.listing.specs.Lines.{out_line}
use Rattle.listing.specs.Dividend.{size_line, counts_line}
use Rattle.listing.proofs.dividend.lines_of.Goals as goal

-- texts that are added one after the other
module _ (h a b d o e : List ℕ) where
  pub in_order : (((h ++ a) ++ (b ++ d)) ++ o) ++ e ≡ h ++ (a ++ (b ++ (d ++ (o ++ e))))
  in_order =
      append_assoc ((h ++ a) ++ (b ++ d)) o e
      ∙ append_assoc (h ++ a) (b ++ d) (o ++ e)
      ∙ append_assoc h a ((b ++ d) ++ (o ++ e))
      ∙ ap (λ (x : List ℕ). h ++ (a ++ x)) (append_assoc b d (o ++ e))

added : (s t u v w h a b d o o' e : List ℕ) → s ≡ h ++ a → t ≡ s ++ (b ++ d) → u ≡ t ++ o → v ≡ u ++ e → o ≡ o' → w ≡ h → v ≡ w ++ (a ++ (b ++ (d ++ (o' ++ e))))
added s t u v w h a b d o o' e p q r x y z = let f = in_order h a b d o e in let k = x ∙ ap (λ (k : List ℕ). k ++ e) (r ∙ ap (λ (k : List ℕ). k ++ o) (q ∙ ap (λ (k : List ℕ). k ++ (b ++ d)) p)) in
    k ∙ f ∙ (λ i. sym z i ++ (a ++ (b ++ (d ++ (y i ++ e)))))

pub returns : goal.returns
returns c = λ first second e.
    let last = line_at c.args.lines.now (length c.args.lines.now - 1) in
    added _ _ _ _ _ _ _ (size_line (length c.args.lent.now.material.now)) (counts_line last.garbler_count last.evaluator_count) _ _ _ c.in_ok-add_lines.ensures c.in_ok-add_totals.ensures c.in_ok-add_outputs.ensures c.in_ok-add_dividend.ensures
    (ap (out_line (λ k. get_or c.args.lent.now.outputs.now k 0)) c.requires.outputs) (sym e)
