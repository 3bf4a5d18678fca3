-- What holds of the rows of every sheet and of their rates.
use Rattle.std.specs.Prelude.{◌≡◌, ℕ, ◌*◌, ◌<◌, true, List, is_some, Some, None}
use Rattle.std.specs.List.{slice_get}
use Rattle.sheet.specs.declared.rates.RateSums.{RateSums}
use Rattle.sheet.specs.Model.{Model, Row}
use Rattle.sheet.specs.Rates.{split_of, rate_at, failure_rate}

-- nothing is lost or added where a rate is split: the safe and the dangerous failures of every row are its rate, in units of 1e-9 FIT
abbrev pub RowsKept : Model → Type 0
RowsKept m = (k : ℕ) (r : Row) (x : RateSums) → slice_get m.rows k ≡ Some r → split_of r ≡ Some x → failure_rate x ≡ 1000000 * r.rate

-- and so are the sums of a place
abbrev pub SumsKept : Model → ℕ → RateSums → Type 0
SumsKept m p x = failure_rate x ≡ 1000000 * rate_at p m.rows

-- of these rows, row i stands at place p with a blank share, and is the first that does
pub record FirstBlank (rs : List Row) (p i : ℕ) : Type 0 where
  pub row : Row
  pub stands : slice_get rs i ≡ Some row
  pub at_the_place : row.place ≡ p
  pub share_blank : split_of row ≡ None
  pub none_before : (k : ℕ) (r : Row) → k < i → slice_get rs k ≡ Some r → r.place ≡ p → is_some (split_of r) ≡ true
