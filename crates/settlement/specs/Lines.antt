-- Calls and lines by their number, and what a line tells. Assumes nothing.
use Rattle.std.specs.Prelude.{ℕ, Bool, true, false, List, slice_index_or}
use Rattle.settlement.specs.declared.call.Call.{Call}
use Rattle.settlement.specs.declared.call.Call.TheVariants.{Garble}
use Rattle.settlement.specs.declared.line.Answer.{Answer}
use Rattle.settlement.specs.declared.line.Answer.TheVariants.{NotMade, Refused, Garbled, Encoded, Delivered, Evaluated, Coloured, Decoded, Certified}
use Rattle.settlement.specs.declared.line.Line.{Line}

abbrev pub call_at : List Call → ℕ → Call
call_at calls k = slice_index_or calls k (Garble 0 0)

abbrev pub line_at : {L : Type 0} → List (Line L) → ℕ → Line L
line_at lines k = slice_index_or lines k (record { answer = NotMade; garbler_count = 0; evaluator_count = 0 })

-- the call was accepted
abbrev pub is_accepted : {L : Type 0} → Answer L → Bool
is_accepted NotMade = false
is_accepted (Refused why) = false
is_accepted (Garbled bits bytes) = true
is_accepted (Encoded label) = true
is_accepted Delivered = true
is_accepted (Evaluated bytes) = true
is_accepted Coloured = true
is_accepted Decoded = true
is_accepted (Certified bit) = true

-- what an answer shows but for a label or a bit
abbrev pub bare : {L : Type 0} → Answer L → Answer ℕ
bare NotMade = NotMade
bare (Refused why) = Refused why
bare (Garbled bits bytes) = Garbled bits bytes
bare (Encoded label) = Encoded 0
bare Delivered = Delivered
bare (Evaluated bytes) = Evaluated bytes
bare Coloured = Coloured
bare Decoded = Decoded
bare (Certified bit) = Certified false
