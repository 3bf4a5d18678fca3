-- A sheet that is filled up has the longest card.
use Rattle.std.proofs.Common.{◌≡◌, ℕ, zero, suc, ◌+◌, ◌%◌, Bool, true, ◌&&◌, List, [], ◌∷◌, length, get_or, replicate, Some, None, Option, refl, subst, add-zero, zero-add, arith}
use Rattle.std.proofs.lemmas.Bool.{and_parts}
use Rattle.std.specs.List.{slice_get}
use Rattle.card.specs.Entries.{card}
use Rattle.std.proofs.lemmas.Option.{none-some}
use Rattle.sheet.specs.declared.mode.Mode.{Mode}
use Rattle.sheet.specs.Limits.{Within, allowed, allowed_or_blank}
use Rattle.sheet.specs.Model.{Model, Row}
use Rattle.sheet.specs.Sound.{RowWithin, Sound}
use Rattle.card_writer.specs.Laws.{LongestReached}

-- whether each field holds a value that it may hold, where the first stands at index i
abbrev all_allowed : ℕ → List (Option ℕ) → Bool
all_allowed i [] = true
all_allowed i (x ∷ fs) = allowed_or_blank (i % 8 + 1) x && all_allowed (suc i) fs

within_from : (fs : List (Option ℕ)) (i : ℕ) → all_allowed i fs ≡ true → (j v : ℕ) → get_or fs j None ≡ Some v → allowed ((i + j) % 8 + 1) v ≡ true
within_from [] i h j v e = absurd (none-some _ e)
within_from (x ∷ fs) i h zero v e = let a = (and_parts (allowed_or_blank (i % 8 + 1) x) (all_allowed (suc i) fs) h).0 in rw (add-zero i) (rw e at a)
within_from (x ∷ fs) i h (suc j) v e =
    let a = (and_parts (allowed_or_blank (i % 8 + 1) x) (all_allowed (suc i) fs) h).1 in
    let n : suc i + j ≡ i + suc j = omega arith in
    rw n at (within_from fs (suc i) a j v e)

full_place : List (Option ℕ) → List (Option ℕ)
full_place fs = Some 1 ∷ Some 0 ∷ Some 0 ∷ Some 0 ∷ Some 0 ∷ Some 0 ∷ Some 65 ∷ Some 1 ∷ fs

full_fields : List (Option ℕ)
full_fields = full_place (full_place (full_place (full_place (full_place (full_place (full_place (full_place [])))))))

full_row : Row
full_row = record { place = 0; rate = 1; safe = None; coverage = None }

full : Model
full = record { mode = Some Mode.Low; fields = full_fields; rows = replicate 64 full_row }

full_row_within : RowWithin full_row
unfolding full_row
full_row_within =
    record {
      place_within = omega arith;
      rate_least = omega arith;
      rate_most = omega arith;
      safe_within = λ x e. absurd (none-some _ e);
      coverage_within = λ x e. absurd (none-some _ e);
    }

each_row : (n k : ℕ) (r : Row) → slice_get (replicate n full_row) k ≡ Some r → RowWithin r
each_row zero k r e = absurd (none-some _ e)
each_row (suc n) zero r e = let q : full_row ≡ r = cc in let P : Row → Type 0 = RowWithin in subst P q full_row_within
each_row (suc n) (suc k) r e = each_row n k r e

full_within : Within full_fields
unfolding full_fields full_place
full_within j v e = rw (zero-add j) at (within_from full_fields 0 refl j v e)

full_sound : Sound full
unfolding full full_fields full_place
full_sound = record { all_fields_stand = refl; settings_within = full_within; few_rows = omega arith; rows_within = each_row 64 }

full_length : length (card full) ≡ 1348
unfolding full full_fields full_place full_row card
full_length = refl

pub longest_reached : LongestReached
longest_reached = (full, full_sound, full_length)
