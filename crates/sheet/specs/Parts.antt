-- What the private parts of the unit's sheet promise one another.
use Rattle.std.specs.Prelude.{◌≡◌, ℕ, List, [], ◌∷◌, Some, None, Ok, Err, Option, Result, not, ◌||◌, nat_lt}
use Rattle.sheet.specs.declared.fault.Fault.{Fault}
use Rattle.sheet.specs.declared.row.Row as unit
use Rattle.sheet.specs.declared.place_sums.PlaceSums.{PlaceSums}
use Rattle.sheet.specs.declared.fault.Refusal.{Refusal}
use Rattle.sheet.specs.Calls.{row_refusal}
use Rattle.sheet.specs.Holds.{row_of}
use Rattle.sheet.specs.Limits.{allowed_or_blank, last_place}
use Rattle.sheet.specs.Model.{Model, Row, with_field}
use Rattle.sheet.specs.Rates.{first_blank, rows_at, total}
use Rattle.sheet.specs.Refusals.{refusal, refusal_of, check, first_failing, answered, after_call}

-- a row of these numbers, or the fault of the first that is outside its limits
abbrev pub MakesRow : ℕ → ℕ → Option ℕ → Option ℕ → Result unit.Row Fault → Type 0
MakesRow p rate s dc (Ok w) =
    (row_of w ≡ record { place = p; rate = rate; safe = s; coverage = dc }) × (row_refusal p rate s dc ≡ None)
MakesRow p rate s dc (Err e) = row_refusal p rate s dc ≡ Some (refusal_of e)

-- a value or blank is written to one field of one place
abbrev pub put_refusal : ℕ → ℕ → Option ℕ → Option Refusal
put_refusal p f v =
    first_failing
    (check (nat_lt last_place p) (refusal 1 (Some p) (Some f))
    ∷ check (nat_lt f 1 || nat_lt 8 f) (refusal 6 (Some p) (Some f))
    ∷ check (not (allowed_or_blank f v)) (refusal 7 (Some p) (Some f)) ∷ [])

abbrev pub put_answer : ℕ → ℕ → Option ℕ → Result (Unit {0}) Refusal
put_answer p f v = answered (put_refusal p f v) tt

abbrev pub was_put : Model → ℕ → ℕ → Option ℕ → Model
was_put m p f v = after_call (put_refusal p f v) m (with_field m p f v)

-- what is read of the rows of place p: their sums, or the number of the first with a blank share
abbrev pub ReadsSums : List Row → ℕ → Result PlaceSums ℕ → Type 0
ReadsSums rs p (Ok x) = (total (rows_at p rs) ≡ Some x.sums) × (first_blank p rs ≡ None)
ReadsSums rs p (Err i) = (total (rows_at p rs) ≡ None) × (first_blank p rs ≡ Some i)
