-- What show answers of a place.
use Rattle.std.specs.Prelude.{◌≡◌, ℕ, ◌+◌, ◌<◌, [], ◌∷◌, length, Some, None, Ok, Err, Option, Result, MatchOption, ◌==◌, nat_lt}
use Rattle.std.specs.Option.{option_map}
use Rattle.sheet.specs.declared.fault.Refusal.{Refusal}
use Rattle.sheet.specs.declared.rates.RateSums.{RateSums}
use Rattle.sheet.specs.declared.show.Percentages.{Percentages}
use Rattle.sheet.specs.Limits.{last_place}
use Rattle.sheet.specs.Model.{Model}
use Rattle.sheet.specs.Rates.{rows_at, first_blank, sums, failure_rate}
use Rattle.sheet.specs.Refusals.{refusal, check, first_failing, or_else}
use Rattle.sheet.specs.Rounding.{Rounded}

-- a place over 7, a place without rows, then the place's first row with a blank share
abbrev pub show_refusal : Model → ℕ → Option Refusal
show_refusal m p =
    or_else
    (first_failing
    (check (nat_lt last_place p) (refusal 1 (Some p) None)
    ∷ check (length (rows_at p m.rows) == 0) (refusal 11 (Some p) None) ∷ []))
    (option_map (λ i. refusal 12 (Some p) (Some i)) (first_blank p m.rows))

-- the safe failure fraction is that of the safe and the dangerous detected failures among all; the diagnostic coverage is that of the
-- dangerous detected among the dangerous ones, and absent where there are none
pub record ShowsSums (x : RateSums) (a : Percentages) : Type 0 where
  pub sff_shown : Rounded (x.safe + x.dangerous_detected) (failure_rate x) a.sff
  pub coverage_shown :
      MatchOption a.diagnostic_coverage (x.dangerous_detected + x.dangerous_undetected ≡ 0)
      (λ t. (0 < x.dangerous_detected + x.dangerous_undetected)
      × Rounded x.dangerous_detected (x.dangerous_detected + x.dangerous_undetected) t)

-- refused by the first check that fails, or the percentages of the place's sums
abbrev pub Shows : Model → ℕ → Result Percentages Refusal → Type 0
Shows m p (Err e) = show_refusal m p ≡ Some e
Shows m p (Ok a) = (show_refusal m p ≡ None) × ((x : RateSums) × (sums m p ≡ Some x) × ShowsSums x a)
