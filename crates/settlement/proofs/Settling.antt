-- How a settlement begins and ends. Assumes nothing.
use Rattle.std.proofs.Common.{◌≡◌, ℕ, suc, ◌^◌, ◌<◌, ◌≤◌, Bool, true, false, cond, nat_lt, List, length, Some, None, Option, refl, ap, ◌∙◌, sym, subst, arith}
use Rattle.std.proofs.lemmas.Bool.{lt-ltb}
use Rattle.labels.specs.Kind.{Kind}
use Rattle.hashes.specs.Draws.{offset, input_zero}
use Rattle.circuit.specs.Check.{circuit_refusal}
use Rattle.circuit.specs.Parts.{parts_of}
use Rattle.circuit.specs.Gates.{wires_in}
use Rattle.circuit.specs.Refusals.{or_else}
use Rattle.circuit.specs.declared.refusal.Refusal.{Refusal}
use Rattle.circuit.proofs.Checks.{or_else_none, only_none}
use Rattle.circuit.proofs.GateParts.{made_within}
use Rattle.labels.specs.Lists.{places}
use Rattle.memory.specs.Copy.{open_copy, copy_refusal}
use Rattle.parties.specs.declared.side.Side.{Side}
use Rattle.parties.specs.Refusing.{seed_refusal, open_refusal, join_refusal}
use Rattle.settlement.specs.State.{State}
use Rattle.settlement.specs.Runs.{Settlement, settlement_from, Begun, Ran}
use Rattle.settlement.specs.Lines.{call_at, line_at}
use Rattle.settlement.specs.Followed.{Follows, Followed}
use Rattle.settlement.specs.Refused.{Supply, settle_refusal}
use Rattle.settlement.specs.Settled.{Settled}
use Rattle.settlement.specs.Refused.{own_refusal, Denied}
use Rattle.settlement.specs.Settled.{Begins, Ended}
use Rattle.settlement.specs.declared.call.Call.{Call}
use Rattle.settlement.specs.declared.line.Line.{Line}
use Rattle.settlement.specs.declared.past.Past.{Past}
use Rattle.settlement.proofs.Making.{not_both}
use Rattle.settlement.proofs.Theorem.{claims, line_claims}
use Rattle.settlement.proofs.Alike.{line_alike}
use Rattle.settlement.proofs.Wiping.{Held, held_at, garbler_may, evaluator_may}

module _ {L : Type 0} (K : Kind L) (F : L → ℕ → L) (bytes seed : List ℕ) (garbler evaluator : Side) (zeros labels : ℕ) (room : Supply) where
  both_refusals : settle_refusal K F bytes seed garbler evaluator zeros labels room ≡ or_else (own_refusal bytes room) (or_else (open_refusal garbler bytes K F zeros seed) (join_refusal evaluator (open_copy bytes) labels))
  unfolding settle_refusal
  both_refusals = refl

  pub refused_first : (why : Refusal) → own_refusal bytes room ≡ Some why → settle_refusal K F bytes seed garbler evaluator zeros labels room ≡ Some why
  refused_first why e = both_refusals ∙ ap (λ (o : Option Refusal). or_else o (or_else (open_refusal garbler bytes K F zeros seed) (join_refusal evaluator (open_copy bytes) labels))) e

  pub refused_then : (o : Option Refusal) → own_refusal bytes room ≡ None → or_else (open_refusal garbler bytes K F zeros seed) (join_refusal evaluator (open_copy bytes) labels) ≡ o → settle_refusal K F bytes seed garbler evaluator zeros labels room ≡ o
  refused_then o e f = both_refusals ∙ ap (λ (p : Option Refusal). or_else p (or_else (open_refusal garbler bytes K F zeros seed) (join_refusal evaluator (open_copy bytes) labels))) e ∙ f

-- an accepted join tells that the copy passes
pub copy_passes : {L : Type 0} (K : Kind L) (F : L → ℕ → L) (bytes seed : List ℕ) (garbler evaluator : Side) (zeros labels : ℕ)
    → or_else (open_refusal garbler bytes K F zeros seed) (join_refusal evaluator (open_copy bytes) labels) ≡ None → circuit_refusal (open_copy bytes) ≡ None
copy_passes K F bytes seed garbler evaluator zeros labels e = (or_else_none (circuit_refusal (open_copy bytes)) _ (or_else_none (open_refusal garbler bytes K F zeros seed) _ e).1).0

-- what begin leaves when it is refused, of a settlement whose own memory is enough
pub denied_later : {L : Type 0} (K : Kind L) (F : L → ℕ → L) (bytes seed : List ℕ) (own : Option Refusal) (why : Refusal) (old new : State L) → own ≡ None → Denied K F bytes seed None why old new → Denied K F bytes seed own why old new
denied_later K F bytes seed own why old new e b = record {
  own = λ f. not_both own why f e;
  opening = λ _ f. b.opening refl f;
  joining = λ _ f. b.joining refl f;
}

module _ {L : Type 0} (K : Kind L) (F E : L → ℕ → L) (bytes seed : List ℕ) (calls : List Call) (lines : List (Line L)) (old : State L) (at : ℕ → State L) (b : Begins K F bytes seed old (at 0)) where
  abbrev settlement : Settlement L
  settlement = settlement_from old F E bytes calls lines at

  input_there : (i : ℕ) → i < (parts_of bytes).sizes.inputs → places K (at 0).zeros i ≡ input_zero F (at 0).seed i
  input_there i h =
      let few = made_within (parts_of bytes) 0 (omega arith) in
      let w = b.opened.wires.front i K.zero (omega arith) in
      let t : nat_lt i (parts_of bytes).sizes.inputs ≡ true = lt-ltb i (parts_of bytes).sizes.inputs h in
      w ∙ ap (λ (c : Bool). cond c (input_zero F (K.from seed) i) K.zero) t ∙ ap (λ (l : L). input_zero F l i) (sym b.opened.seed_is)

  module _ (room : Supply) (own : own_refusal bytes room ≡ None) (opens : open_refusal old.garbler bytes K F (length old.zeros) seed ≡ None) (sent : 256 ≤ length old.sent) (fresh : old.shown ≡ None) (fresh_bits : old.decoded ≡ false) (fits : old.evaluator_count < 2 ^ 64) where
    begun : Begun K settlement
    begun =
        let passes = (or_else_none (circuit_refusal bytes) _ (or_else_none _ (copy_refusal bytes room.copy) own).1).0 in
        let colour = only_none (K.colour (offset F (K.from seed) K)) _ (or_else_none (seed_refusal old.garbler bytes K (length old.zeros) seed) _ opens).1 in
        let d : (at 0).offset ≡ offset F (at 0).seed K = b.opened.offset_is ∙ ap (λ (l : L). offset F l K) (sym b.opened.seed_is) in
        record {
          passes = passes;
          garbler = b.opened.side_is;
          evaluator = b.joined.side_is;
          offset_is = d;
          coloured = ap (λ (l : L). K.colour l) b.opened.offset_is ∙ colour;
          inputs = input_there;
          zeros_room = let l = b.opened.wires.long in let r = b.opened.room in omega arith;
          labels_room = let l = b.joined.wires.long in let r = b.joined.room in omega arith;
          sent_room = let e = ap (λ (xs : List L). length xs) b.sent in omega arith;
          none_shown = b.shown ∙ fresh;
          none_decoded = b.decoded ∙ fresh_bits;
          garbler_count = b.garbler_count;
          evaluator_count = b.evaluator_count;
          evaluator_fits = fits;
        }

    settled : (last : State L)
        → Follows K F E bytes calls lines (length calls) at
        → at (length calls) ≡ last
        → Settled K settlement seed old last
    settled last follows ends =
        let ran : Ran K settlement (length calls) = record { begun = begun; follows = follows } in
        let held = subst (λ (z : State L). Held (wires_in (parts_of bytes)) (wires_in (parts_of (open_copy bytes))) z) ends (held_at K settlement (length calls) ran (length calls) (omega arith)) in
        record {
          prepared = b;
          ran = ran;
          ends = ends;
          claims = λ same k l. claims K settlement (length calls) ran same k l;
          lines = λ same k l. line_claims K settlement (length calls) ran same k l (line_alike K settlement (length calls) ran same k l);
          garbler_wipes = garbler_may _ _ last held;
          evaluator_wipes = evaluator_may _ _ last held;
        }

-- a settlement that began and went on to its end
pub ended : {L : Type 0} (K : Kind L) (F E : L → ℕ → L) (bytes seed : List ℕ) (calls : List Call) (lines : List (Line L)) (old first : State L) (last : Past → State L) (past : Past) (room : Supply) (F' : L → ℕ → L)
    → F' ≡ F
    → own_refusal bytes room ≡ None
    → open_refusal old.garbler bytes K F (length old.zeros) seed ≡ None
    → 256 ≤ length old.sent → old.shown ≡ None → old.decoded ≡ false → old.evaluator_count < 2 ^ 64
    → Begins K F bytes seed old first
    → Followed K F' E bytes calls lines (length calls) first (last past)
    → Ended K F E bytes seed calls lines old last
ended K F E bytes seed calls lines old first last past room F' same own opens sent fresh fresh_bits fits b followed =
    let f = subst (λ (G : _ → ℕ → _). Followed K G E bytes calls lines (length calls) first (last past)) same followed in
    let b0 = subst (λ (z : State _). Begins K F bytes seed old z) (sym f.starts) b in
    record {
      past = past;
      at = f.at;
      settled = settled K F E bytes seed calls lines old f.at b0 room own opens sent fresh fresh_bits fits (last past) f.follows f.ends;
    }
