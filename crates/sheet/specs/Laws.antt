-- What a call changes, and that it changes nothing else.
use Rattle.std.specs.Prelude.{◌≡◌, ℕ, ◌+◌, ◌<◌, ◌≤◌, length, IfOk, Option, Result, OnErr}
use Rattle.std.specs.List.{slice_get}
use Rattle.sheet.specs.declared.fault.Fault.{Fault}
use Rattle.sheet.specs.Model.{Model, field}

-- a refused call changes nothing
abbrev pub RefusedUnchanged : {X : Type 0} → Result X Fault → Model → Model → Type 0
RefusedUnchanged r before after = OnErr r (after ≡ before)

-- set and blank change one field of one place and no other
pub record OneField (p f : ℕ) (v : Option ℕ) (before after : Model) (r : Result (Unit {0}) Fault) : Type 0 where
  pub the_field : IfOk r (λ _. field after p f ≡ v)
  pub other_fields : (q g : ℕ) → 1 ≤ g → g ≤ 8 → ((q ≡ p) × (g ≡ f) → ⊥) → field after q g ≡ field before q g
  pub same_mode : after.mode ≡ before.mode
  pub same_rows : after.rows ≡ before.rows

-- strike takes row i out, moves later rows up by one, and changes nothing else
pub record OneRowOut (i : ℕ) (before after : Model) (r : Result (Unit {0}) Fault) : Type 0 where
  pub earlier_rows : (k : ℕ) → k < i → slice_get after.rows k ≡ slice_get before.rows k
  pub later_rows : IfOk r (λ _. (k : ℕ) → i ≤ k → slice_get after.rows k ≡ slice_get before.rows (k + 1))
  pub one_fewer : IfOk r (λ _. length after.rows + 1 ≡ length before.rows)
  pub same_mode : after.mode ≡ before.mode
  pub same_fields : after.fields ≡ before.fields
