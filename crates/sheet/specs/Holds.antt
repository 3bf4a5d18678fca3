-- What the unit's sheet holds, as a model.
use Rattle.std.specs.Prelude.{◌≡◌, ◌≤◌, length, map}
use Rattle.std.specs.Option.{option_map}
use Rattle.sheet.specs.declared.row.Row as unit
use Rattle.sheet.specs.declared.sheets.Sheet.TheInside.{Inside}
use Rattle.sheet.specs.Limits.{Within, most_rows}
use Rattle.sheet.specs.Model.{Model, Row}
use Rattle.sheet.specs.Settings.{all_fields}

abbrev pub row_of : unit.Row → Row
row_of r =
    record {
      place = r.place.number;
      rate = r.rate;
      safe = option_map (λ s. s.thousandths) r.safe;
      coverage = option_map (λ s. s.thousandths) r.coverage;
    }

-- the mode, the fields and the rows that the unit keeps
abbrev pub model_of : Inside → Model
model_of s = record { mode = s.mode; fields = all_fields s.places; rows = map row_of s.rows }

-- there are eight places and at most 64 rows, and every setting is within its limits
pub record Limited (s : Inside) : Type 0 where
  pub eight : length s.places ≡ 8
  pub settings : Within (all_fields s.places)
  pub few : length s.rows ≤ most_rows
