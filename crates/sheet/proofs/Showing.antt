-- What is read of a place's rows, and what show and the reader of sums answer of it.
use Rattle.std.proofs.Common.{◌≡◌, ℕ, ◌<◌, ◌≤◌, List, length, map, Some, None, Ok, Err, Option, Result, sym, refl, ap, ◌∙◌, subst, le_antisymm, arith, MatchOption}
use Rattle.std.proofs.lemmas.Bool.{eq-eqb, ne_eqb, le-ltb}
use Rattle.std.specs.Option.{ok_or}
use Rattle.sheet.specs.declared.fault.Fault.{Fault}
use Rattle.sheet.specs.declared.fault.Refusal.{Refusal}
use Rattle.sheet.specs.declared.rates.RateSums.{RateSums}
use Rattle.sheet.specs.declared.show.Percentages.{Percentages}
use Rattle.sheet.specs.declared.row.Row as unit
use Rattle.sheet.specs.Holds.{row_of}
use Rattle.sheet.specs.Kept.{SumsKept}
use Rattle.sheet.specs.Limits.{last_place}
use Rattle.sheet.specs.Model.{Model}
use Rattle.sheet.specs.Rates.{total, rows_at, first_blank, failure_rate}
use Rattle.sheet.specs.Refusals.{answer_of}
use Rattle.sheet.specs.Rounding.{distance, Rounded}
use Rattle.sheet.specs.Shown.{Shows, ShowsSums}
use Rattle.sheet.proofs.Kept.{sums_kept, no_rate, no_rows}
use Rattle.std.proofs.lemmas.Option.{none-some}

-- the sums of a place of a sheet with these rows, and what is shown of them
module _ (rs : List unit.Row) (m : Model) (stand : m.rows ≡ map row_of rs) (p : ℕ) where
  pub kept : (x : RateSums) → total (rows_at p (map row_of rs)) ≡ Some x → SumsKept m p x
  kept x e = rw stand (sums_kept p rs x e)

  module _ (within : p ≤ last_place) where
    pub shown : (x : RateSums) (o : Option Percentages) → total (rows_at p (map row_of rs)) ≡ Some x → first_blank p (map row_of rs) ≡ None
        → MatchOption o (failure_rate x ≡ 0) (λ a. (0 < failure_rate x) × ShowsSums x a) → Shows m p (answer_of (ok_or o (Fault.RowsMissing p)))
    shown x None sum none e =
        let w = sums_kept p rs x sum in
        let n = no_rate p rs (omega arith) in
        rw (stand, le-ltb 7 p (omega arith), eq-eqb (length (rows_at p (map row_of rs))) 0 n)
    shown x (Some a) sum none e =
        let w = sums_kept p rs x sum in
        let n : length (rows_at p (map row_of rs)) ≡ 0 → ⊥ = λ k. let z = no_rows p rs k in omega (arith, e.0) in
        rw stand ((rw (le-ltb 7 p (omega arith), ne_eqb (length (rows_at p (map row_of rs))) 0 n, none), (x, sum, e.1)))

-- one number of tenths is nearest, and the upper of two
rounded_one : (n d t u : ℕ) → Rounded n d t → Rounded n d u → t ≡ u
rounded_one n d t u h k =
    let a : distance n d t ≡ distance n d u = le_antisymm (h.nearest u) (k.nearest t) in
    le_antisymm (k.upper t a) (h.upper u (sym a))

coverage_one : (n d : ℕ) (o q : Option ℕ)
    → MatchOption o (d ≡ 0) (λ t. (0 < d) × Rounded n d t) → MatchOption q (d ≡ 0) (λ t. (0 < d) × Rounded n d t) → o ≡ q
coverage_one n d None None h k = refl
coverage_one n d None (Some u) h k = absurd (omega (arith, h, k.0))
coverage_one n d (Some t) None h k = absurd (omega (arith, h.0, k))
coverage_one n d (Some t) (Some u) h k = ap (λ x. Some x) (rounded_one n d t u h.1 k.1)

percentages_one : (x : RateSums) (a b : Percentages) → ShowsSums x a → ShowsSums x b → a ≡ b
percentages_one x a b h k =
    let e = rounded_one _ _ a.sff b.sff h.sff_shown k.sff_shown in
    let f = coverage_one _ _ a.diagnostic_coverage b.diagnostic_coverage h.coverage_shown k.coverage_shown in
    λ i. record { sff = e i; diagnostic_coverage = f i }

-- what is shown is decided: two answers that a sheet shows are one
pub shown_one : (m : Model) (p : ℕ) (a b : Result Percentages Refusal) → Shows m p a → Shows m p b → a ≡ b
shown_one m p (Ok a) (Ok b) h k =
    let x = h.1.0 in
    let e : k.1.0 ≡ x = cc (h.1.1, k.1.1) in
    let P : RateSums → Type 0 = λ y. ShowsSums y b in
    ap (λ c. Ok c) (percentages_one x a b h.1.2 (subst P e k.1.2))
shown_one m p (Ok a) (Err f) h k = absurd (none-some _ (sym h.0 ∙ k))
shown_one m p (Err e) (Ok b) h k = absurd (none-some _ (sym k.0 ∙ h))
shown_one m p (Err e) (Err f) h k = let q : e ≡ f = cc in ap (λ c. Err c) q
