use Rattle.laws.proofs.Opening.{passes_open, parts_open}
use Rattle.laws.proofs.open.copies_are_open.Goals as goal

pub returns : goal.returns
returns c bytes passes = record { passes = passes_open bytes passes; parts = parts_open bytes passes }
