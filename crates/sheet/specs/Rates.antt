-- How a row's failure rate splits, and the sums of a place.
use Rattle.std.specs.Prelude.{ℕ, ◌+◌, ◌-◌, ◌*◌, ◌≤◌, cond, not, ◌&&◌, List, [], ◌∷◌, is_some, Some, None, Option, ◌==◌}
use Rattle.sheet.specs.declared.rates.RateSums.{RateSums}
use Rattle.sheet.specs.Limits.{greatest_rate}
use Rattle.sheet.specs.Model.{Model, Row}

-- a rate in thousandths of a FIT, with its safe share and its diagnostic coverage in thousandths, in units of 1e-9 FIT
abbrev pub split : ℕ → ℕ → ℕ → RateSums
split rate s dc =
    record {
      safe = rate * s * 1000;
      dangerous_detected = rate * (1000 - s) * dc;
      dangerous_undetected = rate * (1000 - s) * (1000 - dc);
      safe_detected = rate * s * dc;
    }

-- a row with a blank share has no split: a blank is never read as zero
abbrev pub split_by : ℕ → Option ℕ → Option ℕ → Option RateSums
split_by rate None dc = None
split_by rate (Some s) None = None
split_by rate (Some s) (Some dc) = Some (split rate s dc)

abbrev pub split_of : Row → Option RateSums
split_of r = split_by r.rate r.safe r.coverage

-- the rows of a place
abbrev pub rows_at : ℕ → List Row → List Row
rows_at p [] = []
rows_at p (r ∷ rs) = cond (r.place == p) (r ∷ rows_at p rs) (rows_at p rs)

abbrev pub no_rates : RateSums
no_rates = record { safe = 0; dangerous_detected = 0; dangerous_undetected = 0; safe_detected = 0 }

abbrev pub add_rates : RateSums → RateSums → RateSums
add_rates x y =
    record {
      safe = x.safe + y.safe;
      dangerous_detected = x.dangerous_detected + y.dangerous_detected;
      dangerous_undetected = x.dangerous_undetected + y.dangerous_undetected;
      safe_detected = x.safe_detected + y.safe_detected;
    }

abbrev pub add_splits : Option RateSums → Option RateSums → Option RateSums
add_splits None y = None
add_splits (Some x) None = None
add_splits (Some x) (Some y) = Some (add_rates x y)

-- the splits of all rows added, unless one has a blank share
abbrev pub total : List Row → Option RateSums
total [] = Some no_rates
total (r ∷ rs) = add_splits (split_of r) (total rs)

-- the number of the first row of place p with a blank share, where the rows are numbered from n
abbrev pub blank_in : ℕ → ℕ → List Row → Option ℕ
blank_in p n [] = None
blank_in p n (r ∷ rs) = cond (r.place == p && not (is_some (split_of r))) (Some n) (blank_in p (n + 1) rs)

abbrev pub first_blank : ℕ → List Row → Option ℕ
first_blank p rs = blank_in p 0 rs

-- the rates of the rows of a place added
abbrev pub rate_at : ℕ → List Row → ℕ
rate_at p [] = 0
rate_at p (r ∷ rs) = cond (r.place == p) (r.rate + rate_at p rs) (rate_at p rs)

-- safe, dangerous detected and dangerous undetected failures together
abbrev pub failure_rate : RateSums → ℕ
failure_rate x = x.safe + (x.dangerous_detected + x.dangerous_undetected)

-- no sum is above that of n rows, each with the greatest rate
pub record Bounded (n : ℕ) (x : RateSums) : Type 0 where
  pub safe_bound : x.safe ≤ n * (1000000 * greatest_rate)
  pub detected_bound : x.dangerous_detected ≤ n * (1000000 * greatest_rate)
  pub undetected_bound : x.dangerous_undetected ≤ n * (1000000 * greatest_rate)
  pub safe_detected_bound : x.safe_detected ≤ n * (1000000 * greatest_rate)

-- the four rate sums of a place
abbrev pub sums : Model → ℕ → Option RateSums
sums m p = total (rows_at p m.rows)
