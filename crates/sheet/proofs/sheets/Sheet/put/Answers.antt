use Rattle.sheet.proofs.Listed.{sound}
use Rattle.sheet.proofs.sheets.Sheet.put.Goals as goal

pub returns-in_err-at-clause-sound : goal.returns-in_err-at-clause-sound
returns-in_err-at-clause-sound c = rw (← c.self.view_is) (sound c.self.inside c.self.invariant)

pub returns-in_err-named-clause-sound : goal.returns-in_err-named-clause-sound
returns-in_err-named-clause-sound c = rw (← c.self.view_is) (sound c.self.inside c.self.invariant)

pub returns-in_err-setting-clause-sound : goal.returns-in_err-setting-clause-sound
returns-in_err-setting-clause-sound c = rw (← c.self.view_is) (sound c.self.inside c.self.invariant)
