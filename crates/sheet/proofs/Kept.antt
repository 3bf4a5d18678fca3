-- Nothing is lost or added where a rate is split, and a place whose rates are nothing has no rows.
use Rattle.std.proofs.Common.{◌≡◌, ℕ, zero, suc, ◌+◌, ◌-◌, ◌*◌, ◌≤◌, true, false, cond, eqb, List, [], ◌∷◌, map, length, Some, None, Option, refl, ap, subst, arith}
use Rattle.std.specs.Option.{option_map}
use Rattle.std.specs.List.{slice_get}
use Rattle.sheet.specs.declared.rates.RateSums.{RateSums}
use Rattle.sheet.specs.declared.row.Row as unit
use Rattle.sheet.specs.declared.share.Share.{Share}
use Rattle.sheet.specs.Model.{Row}
use Rattle.sheet.specs.Rates.{split, split_by, split_of, add_rates, add_splits, total, rows_at, rate_at, failure_rate}
use Rattle.sheet.specs.Holds.{row_of}
use Rattle.std.proofs.lemmas.Option.{none-some}

split_kept : (rate s dc : ℕ) → s ≤ 1000 → dc ≤ 1000 → failure_rate (split rate s dc) ≡ 1000000 * rate
split_kept rate s dc a b =
    let k : s + (1000 - s) ≡ 1000 = omega arith in
    let j : dc + (1000 - dc) ≡ 1000 = omega arith in
    let f = ap (λ y. rate * (1000 - s) * y) j in
    let g = ap (λ y. rate * y) k in
    omega arith

shares_kept : (rate : ℕ) (s dc : Option Share) (x : RateSums)
    → split_by rate (option_map (λ a. a.thousandths) s) (option_map (λ a. a.thousandths) dc) ≡ Some x → failure_rate x ≡ 1000000 * rate
shares_kept rate None dc x e = absurd (none-some _ e)
shares_kept rate (Some a) None x e = absurd (none-some _ e)
shares_kept rate (Some a) (Some b) x e =
    let q : x ≡ split rate a.thousandths b.thousandths = cc in
    rw q (split_kept rate a.thousandths b.thousandths a.within b.within)

row_kept : (r : unit.Row) (x : RateSums) → split_of (row_of r) ≡ Some x → failure_rate x ≡ 1000000 * r.rate
row_kept r x e = shares_kept r.rate r.safe r.coverage x e

add_splits_parts : (o q : Option RateSums) (x : RateSums) → add_splits o q ≡ Some x
    → (a : RateSums) × (b : RateSums) × (o ≡ Some a) × (q ≡ Some b) × (x ≡ add_rates a b)
add_splits_parts None q x e = absurd (none-some _ e)
add_splits_parts (Some a) None x e = absurd (none-some _ e)
add_splits_parts (Some a) (Some b) x e = (a, b, refl, refl, cc)

-- the sums of a place
pub sums_kept : (p : ℕ) (rs : List unit.Row) (x : RateSums) → total (rows_at p (map row_of rs)) ≡ Some x
    → failure_rate x ≡ 1000000 * rate_at p (map row_of rs)
sums_kept p [] x e = let q : x ≡ record { safe = 0; dangerous_detected = 0; dangerous_undetected = 0; safe_detected = 0 } = cc in rw q
sums_kept p (r ∷ rs) x e =
    elim (eqb r.place.number p)
    as (λ b. total (cond b (row_of r ∷ rows_at p (map row_of rs)) (rows_at p (map row_of rs))) ≡ Some x
    → failure_rate x ≡ 1000000 * cond b (r.rate + rate_at p (map row_of rs)) (rate_at p (map row_of rs))) [
      | true ↦ λ h.
          let d = add_splits_parts (split_of (row_of r)) (total (rows_at p (map row_of rs))) x h in
          let f = row_kept r d.0 d.2 in
          let g = sums_kept p rs d.1 d.3 in
          rw d.4 (omega arith)
      | false ↦ λ h. sums_kept p rs x h
    ] e

-- the sums of each row
pub rows_kept : (rs : List unit.Row) (k : ℕ) (r : Row) (y : RateSums) → slice_get (map row_of rs) k ≡ Some r → split_of r ≡ Some y
    → failure_rate y ≡ 1000000 * r.rate
rows_kept [] k r y e f = absurd (none-some _ e)
rows_kept (x ∷ rs) zero r y e f =
    let q : row_of x ≡ r = cc in
    let P : Row → Type 0 = λ w. split_of w ≡ Some y → failure_rate y ≡ 1000000 * w.rate in
    subst P q (row_kept x y) f
rows_kept (x ∷ rs) (suc k) r y e f = rows_kept rs k r y e f

pub no_rate : (p : ℕ) (rs : List unit.Row) → rate_at p (map row_of rs) ≡ 0 → length (rows_at p (map row_of rs)) ≡ 0
no_rate p [] e = refl
no_rate p (r ∷ rs) e =
    elim (eqb r.place.number p)
    as (λ b. cond b (r.rate + rate_at p (map row_of rs)) (rate_at p (map row_of rs)) ≡ 0
    → length (cond b (row_of r ∷ rows_at p (map row_of rs)) (rows_at p (map row_of rs))) ≡ 0)
    [ true ↦ λ h. absurd (omega (arith, r.least)) | false ↦ λ h. no_rate p rs h ] e

pub no_rows : (p : ℕ) (rs : List unit.Row) → length (rows_at p (map row_of rs)) ≡ 0 → rate_at p (map row_of rs) ≡ 0
no_rows p [] e = refl
no_rows p (r ∷ rs) e =
    elim (eqb r.place.number p)
    as (λ b. length (cond b (row_of r ∷ rows_at p (map row_of rs)) (rows_at p (map row_of rs))) ≡ 0
    → cond b (r.rate + rate_at p (map row_of rs)) (rate_at p (map row_of rs)) ≡ 0)
    [ true ↦ λ h. absurd (omega arith) | false ↦ λ h. no_rows p rs h ] e
