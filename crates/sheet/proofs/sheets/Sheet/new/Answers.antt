use Rattle.std.proofs.Common.{refl, arith}
use Rattle.sheet.proofs.Fields.{within_blank}
use Rattle.sheet.proofs.Listed.{sound}
use Rattle.sheet.proofs.sheets.Sheet.new.Goals as goal

pub invariant_of-result : goal.invariant_of-result
invariant_of-result c = record { eight = refl; settings = within_blank 64; few = rw c.in_ok-new.ensures (omega arith) }

pub returns-clause-sound : goal.returns-clause-sound
returns-clause-sound c = sound _ (invariant_of-result c)
