use Rattle.std.proofs.Common.{◌≡◌, ℕ, List, Ok, Option, sym, refl, ap, ◌∙◌, subst, arith, slice_set}
use Rattle.std.proofs.lemmas.List.{length-set}
use Rattle.sheet.specs.Holds.{model_of}
use Rattle.sheet.specs.Laws.{OneField}
use Rattle.sheet.specs.Model.{Model, with_field}
use Rattle.sheet.specs.Settings.{setting_number, setting_value}
use Rattle.sheet.proofs.Fields.{changed, changed_within, one_field, setting_within}
use Rattle.sheet.proofs.Listed.{sound}
use Rattle.sheet.proofs.sheets.Sheet.write.Goals as goal

pub invariant_of-self : goal.invariant_of-self
invariant_of-self c =
    let s = c.self.inside in
    let h = c.self.invariant in
    let l = setting_within c.args.setting in record {
      eight = length-set s.places c.from.result c.put.new.self ∙ h.eight;
      settings =
          changed_within s.places c.from.result (setting_number c.args.setting) (setting_value c.args.setting) _
          c.put.new.self l.0 l.1 refl c.put.ensures c.requires h.settings;
      few = h.few;
    }

after : (c : goal.After-put) → model_of (record { mode = c.self.inside.mode; places = slice_set c.self.inside.places c.from.result c.put.new.self; rows = c.self.inside.rows }) ≡ with_field (model_of c.self.inside) c.args.place.number (setting_number c.args.setting) (setting_value c.args.setting)
after c =
    let s = c.self.inside in
    let m = model_of s in
    let l = setting_within c.args.setting in
    let g : List (Option ℕ) → Model = λ fs. record { mode = m.mode; fields = fs; rows = m.rows } in
    rw (← c.from.ensures)
    (ap g (changed s.places c.from.result (setting_number c.args.setting) (setting_value c.args.setting) _ c.put.new.self l.0 l.1 refl
    c.put.ensures))

pub returns-clause-after : goal.returns-clause-after
returns-clause-after c = rw (← c.self.view_is) (after c)

pub returns-clause-one_field : goal.returns-clause-one_field
returns-clause-one_field c =
    let m = model_of c.self.inside in
    let p = c.args.place.number in
    let f = setting_number c.args.setting in
    let v = setting_value c.args.setting in
    let l = setting_within c.args.setting in
    let P : Model → Type 0 = λ n. OneField p f v m n (Ok tt) in
    rw (← c.self.view_is)
    (subst P (sym (after c))
    (one_field m p f v (sound c.self.inside c.self.invariant).all_fields_stand (omega (arith, c.args.place.within)) l.0 l.1))

pub returns-clause-sound : goal.returns-clause-sound
returns-clause-sound c = sound _ (invariant_of-self c)
