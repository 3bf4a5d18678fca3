use Rattle.std.proofs.Common.{refl, arith}
use Rattle.sheet.proofs.Fields.{within_blank}
use Rattle.sheet.proofs.Listed.{sound}
use Rattle.sheet.proofs.sheets.Sheet.clear.Goals as goal

pub invariant_of-self : goal.invariant_of-self
invariant_of-self c = record { eight = refl; settings = within_blank 64; few = rw c.clear.ensures (omega arith) }

pub returns-clause-sound : goal.returns-clause-sound
returns-clause-sound c = sound _ (invariant_of-self c)
