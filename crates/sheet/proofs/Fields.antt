-- A write to one record of the table of places is a write to one of the fields.
use Rattle.std.proofs.Common.{◌≡◌, ℕ, zero, suc, ◌+◌, ◌-◌, ◌*◌, ◌%◌, ◌<◌, ◌≤◌, true, ◌⊎◌, List, [], ◌∷◌, ◌++◌, length, get_or, take, drop, set, replicate, Some, None, Ok, Option, sym, refl, ap, ◌∙◌, subst, inl, inr, ⊎_elim, zero-add, arith}
use Rattle.std.proofs.lemmas.List.{set-append_left, set-append_right, get_or-set_same, get_or-set_other, length-append}
use Rattle.sheet.specs.declared.record.PlaceRecord.{PlaceRecord}
use Rattle.sheet.specs.declared.setting.Setting.{Setting}
use Rattle.sheet.specs.Limits.{allowed, allowed_or_blank, Within}
use Rattle.sheet.specs.Model.{Model, with_field}
use Rattle.sheet.specs.Settings.{fields_of, all_fields, setting_number}
use Rattle.sheet.specs.Laws.{OneField}
use Rattle.std.proofs.lemmas.Option.{none-some}

-- a place with no settings
abbrev pub blank_place : PlaceRecord
blank_place =
    record {
      proof_test_interval = None;
      mttr = None;
      mrt = None;
      beta = None;
      beta_d = None;
      k = None;
      component_type = None;
      voting = None;
    }

all_fields_set : (rs : List PlaceRecord) (p : ℕ) (r : PlaceRecord) (j : ℕ) (v : Option ℕ) → j < 8
    → fields_of r ≡ set (fields_of (get_or rs p blank_place)) j v → all_fields (set rs p r) ≡ set (all_fields rs) (8 * p + j) v
all_fields_set [] p r j v k e = refl
all_fields_set (x ∷ rs) zero r j v k e =
    ap (λ l. l ++ all_fields rs) e ∙ sym (set-append_left (fields_of x) (all_fields rs) j v k)
    ∙ ap (λ n. set (fields_of x ++ all_fields rs) n v) (sym (zero-add j))
all_fields_set (x ∷ rs) (suc p) r j v k e =
    let n : 8 * suc p + j - 8 ≡ 8 * p + j = omega arith in
    ap (λ l. fields_of x ++ l) (all_fields_set rs p r j v k e ∙ ap (λ i. set (all_fields rs) i v) (sym n))
    ∙ sym (set-append_right (fields_of x) (all_fields rs) 8 (8 * suc p + j) v refl (omega arith))

get_set : (xs : List (Option ℕ)) (j : ℕ) (v : Option ℕ) (i : ℕ)
    → ((i ≡ j) × (get_or (set xs j v) i None ≡ v)) ⊎ (get_or (set xs j v) i None ≡ get_or xs i None)
get_set [] j v i = inr refl
get_set (x ∷ xs) zero v zero = inl (refl, refl)
get_set (x ∷ xs) zero v (suc i) = inr refl
get_set (x ∷ xs) (suc j) v zero = inr refl
get_set (x ∷ xs) (suc j) v (suc i) = ⊎_elim (λ h. inl (ap suc h.0, h.1)) (λ h. inr h) (get_set xs j v i)

pub within_set : (fs : List (Option ℕ)) (j : ℕ) (v : Option ℕ) → ((u : ℕ) → v ≡ Some u → allowed (j % 8 + 1) u ≡ true) → Within fs
    → Within (set fs j v)
within_set fs j v ok h i u e =
    ⊎_elim (λ q. rw q.0 (ok u (sym q.1 ∙ e))) (λ q. h i u (sym q ∙ e)) (get_set fs j v i)

pub allowed_some : (f : ℕ) (v : Option ℕ) (u : ℕ) → v ≡ Some u → allowed_or_blank f v ≡ true → allowed f u ≡ true
allowed_some f v u e h = rw e at h

pub setting_within : (s : Setting) → (1 ≤ setting_number s) × (setting_number s ≤ 8)
setting_within (Setting.ProofTestInterval v) = (omega arith, omega arith)
setting_within (Setting.Mttr v) = (omega arith, omega arith)
setting_within (Setting.Mrt v) = (omega arith, omega arith)
setting_within (Setting.Beta v) = (omega arith, omega arith)
setting_within (Setting.BetaD v) = (omega arith, omega arith)
setting_within (Setting.K v) = (omega arith, omega arith)
setting_within (Setting.ComponentType v) = (omega arith, omega arith)
setting_within (Setting.Voting v) = (omega arith, omega arith)

-- the record r in the place of x, which stood at place p: field f now holds v
module _ (rs : List PlaceRecord) (p f : ℕ) (v : Option ℕ) (x r : PlaceRecord) (least : 1 ≤ f) (most : f ≤ 8)
    (stood : x ≡ get_or rs p blank_place) (put : fields_of r ≡ set (fields_of x) (f - 1) v) where
  pub changed : all_fields (set rs p r) ≡ set (all_fields rs) (8 * p + (f - 1)) v
  changed = all_fields_set rs p r (f - 1) v (omega arith) (put ∙ ap (λ y. set (fields_of y) (f - 1) v) stood)

  pub changed_within : allowed_or_blank f v ≡ true → Within (all_fields rs) → Within (all_fields (set rs p r))
  changed_within ok h =
      let i : (8 * p + (f - 1)) % 8 + 1 ≡ f = omega arith in
      let P : List (Option ℕ) → Type 0 = Within in
      subst P (sym changed) (within_set (all_fields rs) (8 * p + (f - 1)) v (λ u e. rw i (allowed_some f v u e ok)) h)

none_of : (n i : ℕ) → get_or {A = Option ℕ} (replicate n None) i None ≡ None
none_of zero i = refl
none_of (suc n) zero = refl
none_of (suc n) (suc i) = none_of n i

-- fields that are all blank
pub within_blank : (n : ℕ) → Within (replicate n None)
within_blank n i v e = absurd (none-some _ (sym (none_of n i) ∙ e))

-- eight fields for each place
pub all_fields_length : (rs : List PlaceRecord) → length (all_fields rs) ≡ 8 * length rs
all_fields_length [] = refl
all_fields_length (r ∷ rs) = rw (length-append (fields_of r) (all_fields rs)) (omega (arith, all_fields_length rs))

-- a field that is written holds what was written, and the others stay
pub one_field : (m : Model) (p f : ℕ) (v : Option ℕ) → length m.fields ≡ 64 → p < 8 → 1 ≤ f → f ≤ 8
    → OneField p f v m (with_field m p f v) (Ok tt)
one_field m p f v n l a b =
    record {
      the_field = get_or-set_same m.fields (8 * p + (f - 1)) v None (omega arith);
      other_fields = λ q g c d ne.
          get_or-set_other m.fields (8 * p + (f - 1)) (8 * q + (g - 1)) v None (λ e. ne (omega arith, omega arith));
      same_mode = refl;
      same_rows = refl;
    }

-- the eight fields of a place are those of its record
pub place_record : (rs : List PlaceRecord) (p : ℕ) → p < length rs → take 8 (drop (8 * p) (all_fields rs)) ≡ fields_of (get_or rs p blank_place)
place_record [] p h = absurd (omega arith)
place_record (r ∷ rs) zero h = refl
place_record (r ∷ rs) (suc p) h =
    let n : 8 * suc p ≡ suc (suc (suc (suc (suc (suc (suc (suc (8 * p)))))))) = omega arith in
    rw n (place_record rs p (omega arith))
