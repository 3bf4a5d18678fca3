use Rattle.sheet.proofs.Listed.{sound}
use Rattle.sheet.proofs.sheets.Sheet.mode.Goals as goal

pub returns-clause-sound : goal.returns-clause-sound
returns-clause-sound c = rw (← c.self.view_is) (sound c.self.inside c.self.invariant)
