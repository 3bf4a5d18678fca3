use Rattle.sheet.proofs.Listed.{sound}
use Rattle.sheet.proofs.sheets.Sheet.set_mode.Goals as goal

pub returns-in_err-try_from-clause-sound : goal.returns-in_err-try_from-clause-sound
returns-in_err-try_from-clause-sound c = rw (← c.self.view_is) (sound c.self.inside c.self.invariant)

pub returns-clause-sound : goal.returns-clause-sound
returns-clause-sound c = let h = c.self.invariant in sound _ (record { eight = h.eight; settings = h.settings; few = h.few })
