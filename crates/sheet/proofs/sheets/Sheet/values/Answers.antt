use Rattle.std.proofs.Common.{sym, ◌∙◌, arith}
use Rattle.sheet.proofs.Fields.{place_record}
use Rattle.sheet.proofs.Listed.{sound}
use Rattle.sheet.proofs.sheets.Sheet.values.Goals as goal

pub returns-clause-value : goal.returns-clause-value
returns-clause-value c =
    let s = c.self.inside in
    let p = c.args.place in
    rw (← c.self.view_is, ← c.from.ensures)
    (c.values.ensures ∙ sym (place_record s.places c.from.result (omega (arith, p.within, c.from.ensures, c.self.invariant.eight))))

pub returns-clause-sound : goal.returns-clause-sound
returns-clause-sound c = rw (← c.self.view_is) (sound c.self.inside c.self.invariant)
