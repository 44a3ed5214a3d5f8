-- What both sides of a settlement hold between two calls. Assumes nothing.
use Rattle.std.specs.Prelude.{ℕ, Bool, true, false, List, None, Option}
use Rattle.parties.specs.declared.side.Side.{Side}
use Rattle.garbler.specs.declared.record.Garbler.{Garbler}
use Rattle.evaluator.specs.declared.record.Evaluator.{Evaluator}
use Rattle.settlement.specs.declared.lent.Lent.{Lent}
use Rattle.settlement.specs.declared.past.Past.{Past}

pub record State (L : Type 0) : Type 0 where
  -- how far each side has come, and the garbler's secrets
  pub garbler : Side
  pub evaluator : Side
  pub seed : L
  pub offset : L
  -- the wire memory of the garbler and of the evaluator
  pub zeros : List L
  pub labels : List L
  -- the labels that encode answered, by input
  pub sent : List L
  pub scratch : List L
  pub material : List ℕ
  pub colours : List ℕ
  pub outputs : List ℕ
  -- how many colours were shown, once some were, and whether outputs were decoded
  pub shown : Option ℕ
  pub decoded : Bool
  -- the counts of both hashes
  pub garbler_count : ℕ
  pub evaluator_count : ℕ

-- nothing was shown or decoded yet
abbrev pub no_past : Past
no_past = record { shown = None; decoded = false }

-- as the code holds it
abbrev pub held_by : {L : Type 0} → Garbler L → Evaluator → Lent L → Past → ℕ → ℕ → State L
held_by garbler evaluator lent past garbler_count evaluator_count = record {
  garbler = garbler.progress.side;
  evaluator = evaluator.progress.side;
  seed = garbler.secrets.seed;
  offset = garbler.secrets.offset;
  zeros = lent.zeros.now;
  labels = lent.labels.now;
  sent = lent.sent.now;
  scratch = lent.scratch.now;
  material = lent.material.now;
  colours = lent.colours.now;
  outputs = lent.outputs.now;
  shown = past.shown;
  decoded = past.decoded;
  garbler_count = garbler_count;
  evaluator_count = evaluator_count;
}

module _ {L : Type 0} (s : State L) where
  -- the state that each accepted call leaves: all that is not named stays
  abbrev pub by_garble : Side → List L → List ℕ → List L → ℕ → State L
  by_garble side zeros material scratch count = record s { garbler = side; zeros = zeros; material = material; scratch = scratch; garbler_count = count }

  abbrev pub by_encode : Side → List L → State L
  by_encode side sent = record s { garbler = side; sent = sent }

  abbrev pub by_deliver : Side → List L → State L
  by_deliver side labels = record s { evaluator = side; labels = labels }

  abbrev pub by_evaluate : Side → List L → List L → ℕ → State L
  by_evaluate side labels scratch count = record s { evaluator = side; labels = labels; scratch = scratch; evaluator_count = count }

  abbrev pub by_colours : List ℕ → Option ℕ → State L
  by_colours colours shown = record s { colours = colours; shown = shown }

  abbrev pub by_decode : List ℕ → State L
  by_decode outputs = record s { outputs = outputs; decoded = true }
