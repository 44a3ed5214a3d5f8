-- A settlement under long labels as text: a line for each call. Assumes nothing.
use Rattle.std.specs.Prelude.{ℕ, zero, suc, ◌-◌, List, [], ◌++◌, codes, decimal, slice_index}
use Rattle.labels.specs.Longs.{long}
use Rattle.labels.specs.Numbers.{digit}
use Rattle.labels.specs.declared.long.Long.{Long}
use Rattle.circuit.specs.Refusals.{refusal_text}
use Rattle.settlement.specs.declared.call.Call.{Call}
use Rattle.settlement.specs.declared.call.Call.TheVariants.{Garble, Encode, Deliver, Evaluate, Colours, Decode, Certify}
use Rattle.settlement.specs.declared.line.Line.{Line}
use Rattle.settlement.specs.declared.line.Answer.{Answer}
use Rattle.settlement.specs.declared.line.Answer.TheVariants.{NotMade, Refused, Garbled, Encoded, Delivered, Evaluated, Coloured, Decoded, Certified}
use Rattle.listing.specs.Hex.{hex_bytes}

-- a long label as one number, its highest byte first
unfoldable pub hex_long : Long → List ℕ
hex_long x = hex_bytes (λ k. slice_index (long.bytes x) (15 - k)) 16

-- a call and what it carries
abbrev pub call_text : Call → List ℕ
call_text (Garble scratch material) = codes "garble " ++ (decimal scratch ++ (codes " " ++ decimal material))
call_text (Encode input bit) = codes "encode " ++ (decimal input ++ (codes " " ++ decimal bit))
call_text (Deliver input) = codes "deliver " ++ decimal input
call_text (Evaluate scratch) = codes "evaluate " ++ decimal scratch
call_text (Colours length) = codes "colours " ++ decimal length
call_text (Decode length) = codes "decode " ++ decimal length
call_text (Certify output) = codes "certify " ++ decimal output

-- what came of it
abbrev pub answer_text : Answer Long → List ℕ
answer_text NotMade = codes "not made"
answer_text (Refused why) = refusal_text why
answer_text (Garbled bits bytes) = codes "garbled " ++ (decimal bits ++ (codes " bits " ++ (decimal bytes ++ codes " bytes")))
answer_text (Encoded label) = codes "label " ++ hex_long label
answer_text Delivered = codes "delivered"
answer_text (Evaluated bytes) = codes "evaluated " ++ (decimal bytes ++ codes " bytes")
answer_text Coloured = codes "shown"
answer_text Decoded = codes "decoded"
answer_text (Certified bit) = codes "bit " ++ decimal (digit bit)

-- the call, its answer, and both counts after it
abbrev pub call_line : Call → Line Long → List ℕ
call_line call line =
    call_text call
    ++ (codes ": "
    ++ (answer_text line.answer
    ++ (codes "; counts " ++ (decimal line.garbler_count ++ (codes " " ++ (decimal line.evaluator_count ++ codes "\n"))))))

-- the lines of the first n calls
abbrev pub call_lines : (ℕ → Call) → (ℕ → Line Long) → ℕ → List ℕ
call_lines calls lines zero = []
call_lines calls lines (suc n) = call_lines calls lines n ++ call_line (calls n) (lines n)
