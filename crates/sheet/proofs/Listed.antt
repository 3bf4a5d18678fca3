-- The rows of the model against the rows that the unit keeps.
use Rattle.std.proofs.Common.{◌≡◌, ℕ, zero, suc, ◌<◌, ◌≤◌, List, [], ◌∷◌, ◌++◌, map, length, take, drop, Some, None, Ok, Option, refl, ◌∙◌, subst, add-one, arith}
use Rattle.std.specs.List.{remove, slice_get}
use Rattle.std.specs.Option.{MatchOption, option_map}
use Rattle.std.proofs.lemmas.List.Edits.{length-remove}
use Rattle.std.proofs.lemmas.List.{length-map, length_push, map-append, take-map, drop-map}
use Rattle.sheet.specs.declared.row.Row as unit
use Rattle.sheet.specs.declared.share.Share.{Share}
use Rattle.sheet.specs.declared.sheets.Sheet.TheInside.{Inside}
use Rattle.sheet.specs.Holds.{Limited, model_of, row_of}
use Rattle.sheet.specs.Laws.{OneRowOut}
use Rattle.sheet.specs.Limits.{most_rows}
use Rattle.sheet.specs.Model.{Model, Row, without_row}
use Rattle.sheet.specs.Sound.{Sound, RowWithin, ShareWithin}
use Rattle.sheet.proofs.Fields.{all_fields_length}
use Rattle.std.proofs.lemmas.Option.{none-some}

pub rows_removed : (xs : List unit.Row) (i : ℕ) → map row_of (remove xs i) ≡ take i (map row_of xs) ++ drop (suc i) (map row_of xs)
rows_removed xs i = map-append row_of (take i xs) (drop (suc i) xs) ∙ rw (take-map row_of i xs, drop-map row_of (suc i) xs)

-- as many rows as there may be, after one was added or refused
pub added_few : (new old : List unit.Row) (row : unit.Row) (o : Option ℕ)
    → MatchOption o ((most_rows ≤ length old) × (new ≡ old)) (λ n. (length old < most_rows) × (n ≡ length old) × (new ≡ old ++ row ∷ []))
    → length old ≤ most_rows → length new ≤ most_rows
added_few new old row None m h = rw m.1 h
added_few new old row (Some n) m h = rw m.2 (omega (arith, length_push old row, m.0))

-- a model with other rows
abbrev pub with_rows : Model → List Row → Model
with_rows m rs = record { mode = m.mode; fields = m.fields; rows = rs }

-- a list without one element
removed_earlier : (xs : List Row) (i k : ℕ) → k < i → slice_get (take i xs ++ drop (suc i) xs) k ≡ slice_get xs k
removed_earlier [] zero k h = refl
removed_earlier [] (suc i) k h = refl
removed_earlier (x ∷ xs) zero k h = absurd (omega arith)
removed_earlier (x ∷ xs) (suc i) zero h = refl
removed_earlier (x ∷ xs) (suc i) (suc k) h = removed_earlier xs i k (omega arith)

removed_later : (xs : List Row) (i k : ℕ) → i ≤ k → slice_get (take i xs ++ drop (suc i) xs) k ≡ slice_get xs (suc k)
removed_later [] zero k h = refl
removed_later [] (suc i) k h = refl
removed_later (x ∷ xs) zero k h = refl
removed_later (x ∷ xs) (suc i) zero h = absurd (omega arith)
removed_later (x ∷ xs) (suc i) (suc k) h = removed_later xs i k (omega arith)

pub one_row_out : (m : Model) (i : ℕ) → i < length m.rows → OneRowOut i m (without_row m i) (Ok tt)
one_row_out m i h =
    record {
      earlier_rows = removed_earlier m.rows i;
      later_rows = λ k l. rw (add-one k) (removed_later m.rows i k l);
      one_fewer = length-remove m.rows i h;
      same_mode = refl;
      same_fields = refl;
    }

share_within : (s : Option Share) → ShareWithin (option_map (λ a. a.thousandths) s)
share_within None x e = absurd (none-some _ e)
share_within (Some a) x e = let q : a.thousandths ≡ x = cc in omega (arith, a.within)

row_within : (r : unit.Row) → RowWithin (row_of r)
row_within r =
    record {
      place_within = omega (arith, r.place.within);
      rate_least = r.least;
      rate_most = r.most;
      safe_within = share_within r.safe;
      coverage_within = share_within r.coverage;
    }

each_within : (rs : List unit.Row) (k : ℕ) (r : Row) → slice_get (map row_of rs) k ≡ Some r → RowWithin r
each_within [] k r e = absurd (none-some _ e)
each_within (x ∷ rs) zero r e = let q : row_of x ≡ r = cc in let P : Row → Type 0 = RowWithin in subst P q (row_within x)
each_within (x ∷ rs) (suc k) r e = each_within rs k r e

-- every sheet is sound
pub sound : (s : Inside) → Limited s → Sound (model_of s)
sound s h =
    record {
      all_fields_stand = omega (arith, all_fields_length s.places, h.eight);
      settings_within = h.settings;
      few_rows = omega (arith, length-map s.rows row_of, h.few);
      rows_within = each_within s.rows;
    }
