use Rattle.sheet.proofs.Listed.{added_few, sound}
use Rattle.sheet.proofs.sheets.Sheet.enter.Goals as goal

pub returns-in_err-row-clause-sound : goal.returns-in_err-row-clause-sound
returns-in_err-row-clause-sound c = rw (← c.self.view_is) (sound c.self.inside c.self.invariant)

pub returns-clause-sound : goal.returns-clause-sound
returns-clause-sound c = let h = c.self.invariant in sound _ (record { eight = h.eight; settings = h.settings; few = added_few c.add.new.self c.self.inside.rows c.in_ok-row.row c.add.result c.add.ensures h.few })
