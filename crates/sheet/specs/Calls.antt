-- What each call of the sheet answers, and the model that it leaves.
use Rattle.std.specs.Prelude.{ℕ, Bool, false, not, ◌||◌, List, [], ◌∷◌, ◌++◌, length, is_some, Some, None, Option, Result, nat_le, nat_lt}
use Rattle.sheet.specs.declared.fault.Refusal.{Refusal}
use Rattle.sheet.specs.declared.mode.Mode.{Mode}
use Rattle.sheet.specs.Limits.{allowed, last_place, greatest_rate, greatest_share, most_rows}
use Rattle.sheet.specs.Model.{Model, letter_mode, with_mode, with_field, with_row, without_row}
use Rattle.sheet.specs.Refusals.{refusal, Check, check, first_failing, answered, after_call}

-- enter: a row is added last, and its number, from 0, is how many stood before
abbrev pub over_share : Option ℕ → Bool
over_share None = false
over_share (Some x) = nat_lt greatest_share x

abbrev pub row_checks : ℕ → ℕ → Option ℕ → Option ℕ → List Check
row_checks p rate s dc =
    check (nat_lt last_place p) (refusal 1 (Some p) None)
    ∷ check (nat_lt rate 1 || nat_lt greatest_rate rate) (refusal 2 (Some p) None)
    ∷ check (over_share s || over_share dc) (refusal 3 (Some p) None) ∷ []

abbrev pub row_refusal : ℕ → ℕ → Option ℕ → Option ℕ → Option Refusal
row_refusal p rate s dc = first_failing (row_checks p rate s dc)

abbrev pub full_check : Model → ℕ → Check
full_check m p = check (nat_le most_rows (length m.rows)) (refusal 4 (Some p) None)

abbrev pub enter_refusal : Model → ℕ → ℕ → Option ℕ → Option ℕ → Option Refusal
enter_refusal m p rate s dc = first_failing (row_checks p rate s dc ++ (full_check m p ∷ []))

abbrev pub enter_answer : Model → ℕ → ℕ → Option ℕ → Option ℕ → Result ℕ Refusal
enter_answer m p rate s dc = answered (enter_refusal m p rate s dc) (length m.rows)

abbrev pub entered : Model → ℕ → ℕ → Option ℕ → Option ℕ → Model
entered m p rate s dc =
    after_call (enter_refusal m p rate s dc) m (with_row m (record { place = p; rate = rate; safe = s; coverage = dc }))

-- strike: a row is removed
abbrev pub strike_refusal : Model → ℕ → Option Refusal
strike_refusal m i = first_failing (check (nat_le (length m.rows) i) (refusal 5 None (Some i)) ∷ [])

abbrev pub strike_answer : Model → ℕ → Result (Unit {0}) Refusal
strike_answer m i = answered (strike_refusal m i) tt

abbrev pub struck : Model → ℕ → Model
struck m i = after_call (strike_refusal m i) m (without_row m i)

-- set and blank: one field of one place is filled or emptied
abbrev pub set_refusal : ℕ → ℕ → ℕ → Option Refusal
set_refusal p f v =
    first_failing
    (check (nat_lt last_place p) (refusal 1 (Some p) (Some f))
    ∷ check (nat_lt f 1 || nat_lt 8 f) (refusal 6 (Some p) (Some f))
    ∷ check (not (allowed f v)) (refusal 7 (Some p) (Some f)) ∷ [])

abbrev pub set_answer : ℕ → ℕ → ℕ → Result (Unit {0}) Refusal
set_answer p f v = answered (set_refusal p f v) tt

abbrev pub was_set : Model → ℕ → ℕ → ℕ → Model
was_set m p f v = after_call (set_refusal p f v) m (with_field m p f (Some v))

abbrev pub blank_refusal : ℕ → ℕ → Option Refusal
blank_refusal p f =
    first_failing
    (check (nat_lt last_place p) (refusal 1 (Some p) (Some f)) ∷ check (nat_lt f 1 || nat_lt 8 f) (refusal 6 (Some p) (Some f)) ∷ [])

abbrev pub blank_answer : ℕ → ℕ → Result (Unit {0}) Refusal
blank_answer p f = answered (blank_refusal p f) tt

abbrev pub blanked : Model → ℕ → ℕ → Model
blanked m p f = after_call (blank_refusal p f) m (with_field m p f None)

-- mode: the letter's mode is put in
abbrev pub mode_by : Option Mode → Model → Model
mode_by None m = m
mode_by (Some k) m = with_mode m k

abbrev pub mode_answer : ℕ → Result (Unit {0}) Refusal
mode_answer l = answered (first_failing (check (not (is_some (letter_mode l))) (refusal 8 None None) ∷ [])) tt

abbrev pub mode_put : Model → ℕ → Model
mode_put m l = mode_by (letter_mode l) m
