-- What stands on a sheet, apart from how the unit keeps it.
use Rattle.std.specs.Prelude.{ℕ, suc, ◌+◌, ◌-◌, ◌*◌, cond, List, [], ◌∷◌, ◌++◌, take, drop, replicate, Some, None, Option, ◌==◌, slice_index_or, slice_set}
use Rattle.sheet.specs.declared.mode.Mode.{Mode}

-- a failure rate in thousandths of a FIT at a place, its safe share and its diagnostic coverage in thousandths, if given
pub record Row : Type 0 where
  pub place : ℕ
  pub rate : ℕ
  pub safe : Option ℕ
  pub coverage : Option ℕ

-- the mode, eight fields for each of the eight places, each a value or blank, and the rows in order of entry
pub record Model : Type 0 where
  pub mode : Option Mode
  pub fields : List (Option ℕ)
  pub rows : List Row

-- a new sheet: no mode, no settings, no rows
abbrev pub new_model : Model
new_model = record { mode = None; fields = replicate 64 None; rows = [] }

-- the letters of the two modes, L and H
abbrev pub letter_mode : ℕ → Option Mode
letter_mode l = cond (l == 76) (Some Mode.Low) (cond (l == 72) (Some Mode.High) None)

-- where field f of place p stands among the fields, eight for each place
abbrev pub index : ℕ → ℕ → ℕ
index p f = 8 * p + (f - 1)

-- field f of place p
abbrev pub field : Model → ℕ → ℕ → Option ℕ
field m p f = slice_index_or m.fields (index p f) None

-- the eight fields of place p
abbrev pub place_fields : Model → ℕ → List (Option ℕ)
place_fields m p = take 8 (drop (8 * p) m.fields)

abbrev pub with_mode : Model → Mode → Model
with_mode m k = record { mode = Some k; fields = m.fields; rows = m.rows }

abbrev pub with_field : Model → ℕ → ℕ → Option ℕ → Model
with_field m p f v = record { mode = m.mode; fields = slice_set m.fields (index p f) v; rows = m.rows }

abbrev pub with_row : Model → Row → Model
with_row m r = record { mode = m.mode; fields = m.fields; rows = m.rows ++ (r ∷ []) }

abbrev pub without_row : Model → ℕ → Model
without_row m i = record { mode = m.mode; fields = m.fields; rows = take i m.rows ++ drop (suc i) m.rows }
