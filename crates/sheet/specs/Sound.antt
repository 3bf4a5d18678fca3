-- A sheet on which every value is within its limits.
use Rattle.std.specs.Prelude.{◌≡◌, ℕ, ◌≤◌, length, Some, Option}
use Rattle.std.specs.List.{slice_get}
use Rattle.sheet.specs.Limits.{Within, last_place, greatest_rate, greatest_share, most_rows}
use Rattle.sheet.specs.Model.{Model, Row}

-- a share, where it is given, is at most the whole
abbrev pub ShareWithin : Option ℕ → Type 0
ShareWithin s = (x : ℕ) → s ≡ Some x → x ≤ greatest_share

pub record RowWithin (r : Row) : Type 0 where
  pub place_within : r.place ≤ last_place
  pub rate_least : 1 ≤ r.rate
  pub rate_most : r.rate ≤ greatest_rate
  pub safe_within : ShareWithin r.safe
  pub coverage_within : ShareWithin r.coverage

pub record Sound (m : Model) : Type 0 where
  pub all_fields_stand : length m.fields ≡ 64
  pub settings_within : Within m.fields
  pub few_rows : length m.rows ≤ most_rows
  pub rows_within : (k : ℕ) (r : Row) → slice_get m.rows k ≡ Some r → RowWithin r
