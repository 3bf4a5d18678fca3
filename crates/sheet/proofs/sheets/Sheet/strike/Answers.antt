use Rattle.std.specs.Result.{result_ok}
use Rattle.std.proofs.Common.{◌≡◌, ◌<◌, ◌≤◌, false, leb, map, length, Ok, sym, ap, ◌∙◌, subst, arith, rules, slice_index_or}
use Rattle.std.proofs.lemmas.Bool.{lt-leb}
use Rattle.std.proofs.lemmas.List.{length-map}
use Rattle.std.proofs.lemmas.List.Edits.{length-remove}
use Rattle.std.proofs.lemmas.Option.{MatchOption-at_some}
use Rattle.std.specs.List.{remove}
use Rattle.sheet.specs.Holds.{row_of, model_of}
use Rattle.sheet.specs.Laws.{OneRowOut}
use Rattle.sheet.specs.Model.{Model, without_row}
use Rattle.sheet.proofs.Listed.{with_rows, rows_removed, one_row_out, sound}
use Rattle.sheet.proofs.sheets.Sheet.strike.Goals as goal

-- the row stood, and was removed
removed : (c : goal.In_ok-ok_or) → (c.args.row < length c.self.inside.rows) × (c.remove.new.self ≡ remove c.self.inside.rows c.args.row) × (c.in_ok-ok_or.field-0 ≡ slice_index_or c.self.inside.rows c.args.row c.in_ok-ok_or.field-0)
removed c =
    MatchOption-at_some ((length c.self.inside.rows ≤ c.args.row) × (c.remove.new.self ≡ c.self.inside.rows))
    (λ gone. (c.args.row < length c.self.inside.rows) × (c.remove.new.self ≡ remove c.self.inside.rows c.args.row) × (gone ≡ slice_index_or c.self.inside.rows c.args.row gone)) c.in_ok-ok_or.field-0
    ((c.ok_or.ensures.ok_part ∙ ap result_ok c.in_ok-ok_or.was)) c.remove.ensures

after : (c : goal.In_ok-ok_or) → with_rows (model_of c.self.inside) (map row_of c.remove.new.self) ≡ without_row (model_of c.self.inside) c.args.row
after c = ap (with_rows (model_of c.self.inside)) (ap (map row_of) (removed c).1 ∙ rows_removed c.self.inside.rows c.args.row)

stood : (c : goal.In_ok-ok_or) → c.args.row < length (map row_of c.self.inside.rows)
stood c = omega (arith, (removed c).0, length-map c.self.inside.rows row_of)

pub returns-clause-after : goal.returns-clause-after
returns-clause-after c =
    let z : leb (length (map row_of c.self.inside.rows)) c.args.row ≡ false = lt-leb _ _ (stood c) in
    rw (← c.self.view_is, z) (after c)

pub returns-clause-one_row_out : goal.returns-clause-one_row_out
returns-clause-one_row_out c =
    let m = model_of c.self.inside in
    let P : Model → Type 0 = λ k. OneRowOut c.args.row m k (Ok tt) in
    rw (← c.self.view_is) (subst P (sym (after c)) (one_row_out m c.args.row (stood c)))

pub returns-in_err-ok_or-clause-sound : goal.returns-in_err-ok_or-clause-sound
returns-in_err-ok_or-clause-sound c = let h = c.self.invariant in sound _ (record { eight = h.eight; settings = h.settings; few = search rules })

pub returns-clause-sound : goal.returns-clause-sound
returns-clause-sound c =
    let h = c.self.invariant in
    let r = removed c in
    sound _ (record { eight = h.eight; settings = h.settings; few = rw r.1 (omega (arith, length-remove c.self.inside.rows c.args.row r.0, h.few)) })
