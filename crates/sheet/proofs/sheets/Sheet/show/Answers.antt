use Rattle.std.proofs.Common.{refl}
use Rattle.sheet.specs.Refusals.{answer_of}
use Rattle.sheet.proofs.Kept.{rows_kept}
use Rattle.sheet.proofs.Listed.{sound}
use Rattle.sheet.proofs.Showing.{shown_one}
use Rattle.sheet.proofs.Summed.{first_blank_is}
use Rattle.sheet.proofs.sheets.Sheet.show.Goals as goal

pub returns-clause-answer : goal.returns-clause-answer
returns-clause-answer c = c.percentages.ensures c.args.self.now (rw (← c.self.view_is) refl)

pub returns-clause-no_other : goal.returns-clause-no_other
returns-clause-no_other c =
    λ a k. shown_one c.args.self.now c.args.place a (answer_of c.percentages.result) k
    (c.percentages.ensures c.args.self.now (rw (← c.self.view_is) refl))

pub returns-clause-blank_row : goal.returns-clause-blank_row
returns-clause-blank_row c = first_blank_is c.args.place c.args.self.now.rows

pub returns-clause-rows_kept : goal.returns-clause-rows_kept
returns-clause-rows_kept c = rw (← c.self.view_is) (rows_kept c.self.inside.rows)

pub returns-clause-sound : goal.returns-clause-sound
returns-clause-sound c = rw (← c.self.view_is) (sound c.self.inside c.self.invariant)
