-- A new sheet is sound, and a call leaves a sound sheet sound.
use Rattle.std.proofs.Common.{◌≡◌, ℕ, zero, suc, ◌+◌, ◌-◌, ◌*◌, ◌%◌, false, List, [], ◌∷◌, ◌++◌, Some, None, Option, refl, ◌∙◌, subst, arith, length-append}
use Rattle.std.proofs.lemmas.Bool.{ltb-false}
use Rattle.std.proofs.lemmas.List.{length-set}
use Rattle.std.proofs.lemmas.Option.{none-some}
use Rattle.std.specs.List.{slice_get}
use Rattle.sheet.specs.declared.fault.Refusal.{Refusal}
use Rattle.sheet.specs.declared.mode.Mode.{Mode}
use Rattle.sheet.specs.Calls.{entered, enter_refusal, mode_by, mode_put, over_share, set_refusal, was_set}
use Rattle.sheet.specs.Model.{Model, Row, letter_mode, new_model, with_field, with_row}
use Rattle.sheet.specs.Refusals.{after_call}
use Rattle.sheet.specs.Sound.{Sound, RowWithin, ShareWithin}
use Rattle.sheet.proofs.Accepted.{in_row, in_set}
use Rattle.sheet.proofs.Fields.{allowed_some, within_blank, within_set}

pub sound_new : Sound new_model
sound_new =
    record {
      all_fields_stand = refl;
      settings_within = within_blank 64;
      few_rows = omega arith;
      rows_within = λ k r e. absurd (none-some _ e);
    }

mode_sound : (m : Model) (o : Option Mode) → Sound m → Sound (mode_by o m)
mode_sound m None s = s
mode_sound m (Some k) s =
    record {
      all_fields_stand = s.all_fields_stand;
      settings_within = s.settings_within;
      few_rows = s.few_rows;
      rows_within = s.rows_within;
    }

pub sound_mode : (m : Model) (l : ℕ) → Sound m → Sound (mode_put m l)
sound_mode m l s = mode_sound m (letter_mode l) s

-- what holds before a call holds after it, if it holds of what the call makes where it is not refused
after_sound : (o : Option Refusal) (was made : Model) → Sound was → (o ≡ None → Sound made) → Sound (after_call o was made)
after_sound None was made s h = h refl
after_sound (Some r) was made s h = s

pub sound_set : (m : Model) (p f v : ℕ) → Sound m → Sound (was_set m p f v)
sound_set m p f v s =
    after_sound (set_refusal p f v) m (with_field m p f (Some v)) s (λ e.
    let h = in_set p f v e in
    let l = h.least in
    let n = h.most in
    let i : (8 * p + (f - 1)) % 8 + 1 ≡ f = omega arith in
    record {
      all_fields_stand = length-set m.fields (8 * p + (f - 1)) (Some v) ∙ s.all_fields_stand;
      settings_within =
          within_set m.fields (8 * p + (f - 1)) (Some v) (λ u k. rw i (allowed_some f (Some v) u k h.value))
          s.settings_within;
      few_rows = s.few_rows;
      rows_within = s.rows_within;
    })

share_allowed : (o : Option ℕ) → over_share o ≡ false → ShareWithin o
share_allowed None h x e = absurd (none-some _ e)
share_allowed (Some y) h x e = let q : y ≡ x = cc in omega (arith, ltb-false 1000 y h)

-- a row more at the end
pushed_within : (rs : List Row) (r : Row) → ((k : ℕ) (w : Row) → slice_get rs k ≡ Some w → RowWithin w) → RowWithin r → (k : ℕ) (w : Row)
    → slice_get (rs ++ r ∷ []) k ≡ Some w → RowWithin w
pushed_within [] r h g zero w e = let q : r ≡ w = cc in let P : Row → Type 0 = RowWithin in subst P q g
pushed_within [] r h g (suc k) w e = absurd (none-some _ e)
pushed_within (x ∷ rs) r h g zero w e = h zero w e
pushed_within (x ∷ rs) r h g (suc k) w e = pushed_within rs r (λ j. h (suc j)) g k w e

pub sound_entered : (m : Model) (p rate : ℕ) (safe coverage : Option ℕ) → Sound m → Sound (entered m p rate safe coverage)
sound_entered m p rate safe coverage s =
    let r : Row = record { place = p; rate = rate; safe = safe; coverage = coverage } in
    after_sound (enter_refusal m p rate safe coverage) m (with_row m r) s (λ e.
    let h = in_row m p rate safe coverage e in
    let w : RowWithin r =
    record {
      place_within = h.place;
      rate_least = h.least;
      rate_most = h.most;
      safe_within = share_allowed safe h.safe;
      coverage_within = share_allowed coverage h.coverage;
    } in
    record {
      all_fields_stand = s.all_fields_stand;
      settings_within = s.settings_within;
      few_rows = omega (arith, length-append m.rows (r ∷ []), h.room);
      rows_within = pushed_within m.rows r s.rows_within w;
    })
