-- These serve the contracts of private functions only: no public contract cites them.
use Rattle.std.specs.Prelude.{◌≡◌, ℕ, ◌≤◌, Bool, true, false, not, List, ◌++◌, length, drop, is_some, Some, None, Option, Result}
use Rattle.std.specs.Result.{result_map_both}
use Rattle.card.specs.declared.entry.Entry.{Entry}
use Rattle.card.specs.declared.fault.Cause.{Cause}
use Rattle.card.specs.Entries.{card, width}
use Rattle.card.specs.Reading.{before, entry_made, in_order}
use Rattle.card.specs.Refusals.{cause_refusal}
use Rattle.sheet.specs.declared.fault.Refusal.{Refusal}
use Rattle.sheet.specs.Model.{Model}

-- what is found of one field, with the refusal in place of the cause
abbrev pub by_refusal : {X : Type 0} → Result X Cause → Result X Refusal
by_refusal r = result_map_both (λ x. x) cause_refusal r

-- a setting of field f of place p may stand after the last field: at the start, after a mode, or after a setting that comes before it
abbrev pub setting_follows : Option Entry → ℕ → ℕ → Bool
setting_follows None p f = true
setting_follows (Some (Entry.Mode l)) p f = true
setting_follows (Some (Entry.Setting q g w)) p f = before q g p f
setting_follows (Some (Entry.Row q rate s dc)) p f = false

-- a mode may stand at the start only, a row after any field
abbrev pub follows : Option Entry → Entry → Bool
follows last (Entry.Mode l) = not (is_some last)
follows last (Entry.Setting p f v) = setting_follows last p f
follows last (Entry.Row p rate s dc) = true

-- the last field read onto this sheet, if there is one, decides which may come next
pub record Last (last : Option Entry) (m : Model) : Type 0 where
  pub decides : (e : Entry) → in_order m e ≡ follows last e
  pub all : length m.fields ≡ 64

-- a field was read from the start of these bytes onto the sheet m, which is n now: it is among the bytes, n is what its call makes, it
-- decides which field may come next, and the bytes after it follow the card of n as all of them followed that of m
pub record Stepped (m n : Model) (bs : List ℕ) (e : Entry) : Type 0 where
  pub within : width e ≤ length bs
  pub made : n ≡ entry_made m e
  pub last : Last (Some e) n
  pub follow : card n ++ drop (width e) bs ≡ card m ++ bs
