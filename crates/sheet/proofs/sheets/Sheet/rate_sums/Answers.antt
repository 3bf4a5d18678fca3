use Rattle.std.proofs.Common.{ℕ, map, Result, sym, refl, ◌∙◌, subst}
use Rattle.sheet.specs.declared.place_sums.PlaceSums.{PlaceSums}
use Rattle.sheet.specs.Holds.{row_of}
use Rattle.sheet.specs.Parts.{ReadsSums}
use Rattle.sheet.proofs.Listed.{sound}
use Rattle.sheet.proofs.Results.{from_ok}
use Rattle.sheet.proofs.Showing.{kept}
use Rattle.sheet.proofs.sheets.Sheet.rate_sums.Goals as goal

pub returns-clause-kept : goal.returns-clause-kept
returns-clause-kept c =
    let rs = c.self.inside.rows in
    let p = c.args.place.number in
    let x = c.in_ok-ok.field-0 in
    let P : Result PlaceSums ℕ → Type 0 = ReadsSums (map row_of rs) p in
    let h = subst P (from_ok c.sums.result x (sym c.ok.ensures.value ∙ c.in_ok-ok.was)) c.sums.ensures in
    kept rs c.args.self.now (rw (← c.self.view_is) refl) p x.sums h.0

pub returns-clause-sound : goal.returns-clause-sound
returns-clause-sound c = rw (← c.self.view_is) (sound c.self.inside c.self.invariant)

pub returns-in_err-ok-clause-sound : goal.returns-in_err-ok-clause-sound
returns-in_err-ok-clause-sound c = rw (← c.self.view_is) (sound c.self.inside c.self.invariant)
