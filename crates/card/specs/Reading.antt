-- How a card is read: field by field, as mode, set and enter, onto a new sheet, until the first field that is refused.
use Rattle.std.specs.Prelude.{ℕ, zero, suc, ◌+◌, ◌-◌, ◌*◌, Bool, true, false, cond, ◌&&◌, ◌||◌, List, [], ◌∷◌, length, drop, Some, None, Ok, Err, Option, Result, ◌==◌, nat_le, nat_lt, slice_index}
use Rattle.std.specs.Result.{result_map_both}
use Rattle.card.specs.declared.entry.Entry.{Entry}
use Rattle.card.specs.declared.fault.CardRefusal.{CardRefusal}
use Rattle.card.specs.declared.fault.Cause.{Cause}
use Rattle.card.specs.declared.tag.Tag.{Tag}
use Rattle.card.specs.Tags.{tag_at, value_length}
use Rattle.card.specs.Entries.{entries, field_at, place_at, share, width}
use Rattle.card.specs.Refusals.{at_byte, card_refusal, cause_refusal}
use Rattle.sheet.specs.declared.fault.Refusal.{Refusal}
use Rattle.sheet.specs.Calls.{enter_answer, entered, mode_answer, mode_put, set_answer, was_set}
use Rattle.sheet.specs.Model.{Model, new_model}

-- the number in the two, or four, bytes from index i on
abbrev pub two_at : List ℕ → ℕ → ℕ
two_at bs i = slice_index bs i * 256 + slice_index bs (i + 1)

abbrev pub four_at : List ℕ → ℕ → ℕ
four_at bs i = slice_index bs i * 16777216 + slice_index bs (i + 1) * 65536 + slice_index bs (i + 2) * 256 + slice_index bs (i + 3)

-- the field of this tag whose value starts these bytes
abbrev pub entry_from : Tag → List ℕ → Entry
entry_from Tag.Mode bs = Entry.Mode (slice_index bs 0)
entry_from Tag.Setting bs = Entry.Setting (slice_index bs 0) (slice_index bs 1) (four_at bs 2)
entry_from Tag.Row bs = Entry.Row (slice_index bs 0) (four_at bs 1) (two_at bs 5) (two_at bs 7)

-- a field of this tag: 14 where the card ends before its value does
abbrev pub value_at : Tag → List ℕ → Result Entry Refusal
value_at t bs = cond (nat_le (value_length t) (length bs)) (Ok (entry_from t bs)) (Err (card_refusal 14))

-- what a field says, by its tag, its length and the bytes after them: 15 where there is no such tag, 16 where the length is not the tag's
abbrev pub value_by : Result Tag Cause → ℕ → List ℕ → Result Entry Refusal
value_by (Err c) size bs = Err (cause_refusal c)
value_by (Ok t) size bs = cond (size == value_length t) (value_at t bs) (Err (card_refusal 16))

abbrev pub value_of : ℕ → ℕ → List ℕ → Result Entry Refusal
value_of tag size bs = value_by (tag_at tag) size bs

-- the field at the start of some bytes: 14 where its first three are cut short
unfoldable pub entry_at : List ℕ → Result Entry Refusal
entry_at bs = cond (nat_lt (length bs) 3) (Err (card_refusal 14)) (value_of (slice_index bs 0) (two_at bs 1) (drop 3 bs))

-- field g of place q comes before field f of place p
abbrev pub before : ℕ → ℕ → ℕ → ℕ → Bool
before q g p f = nat_lt q p || (q == p && nat_lt g f)

-- every setting that stands comes before field f of place p, where the first of these fields stands at index i
abbrev pub all_before : ℕ → List (Option ℕ) → ℕ → ℕ → Bool
all_before i [] p f = true
all_before i (None ∷ fs) p f = all_before (suc i) fs p f
all_before i (Some v ∷ fs) p f = before (place_at i) (field_at i) p f && all_before (suc i) fs p f

abbrev pub none : {X : Type 0} → List X → Bool
none [] = true
none (x ∷ xs) = false

-- a field is in order where nothing stands that should come after it: a mode on a new sheet, a setting where no row stands and every
-- setting comes before it, a row always
unfoldable pub in_order : Model → Entry → Bool
in_order m (Entry.Mode l) = none (entries m)
in_order m (Entry.Setting p f v) = none m.rows && all_before 0 m.fields p f
in_order m (Entry.Row p rate s dc) = true

-- a field is a call on the sheet, mode, set or enter: what that answers, whatever it has to tell, and the sheet that it leaves
abbrev pub done : {X E : Type 0} → Result X E → Result (Unit {0}) E
done r = result_map_both (λ _. tt) (λ e. e) r

abbrev pub entry_answer : Model → Entry → Result (Unit {0}) Refusal
entry_answer m (Entry.Mode l) = mode_answer l
entry_answer m (Entry.Setting p f v) = set_answer p f v
entry_answer m (Entry.Row p rate s dc) = done (enter_answer m p rate (share s) (share dc))

abbrev pub entry_made : Model → Entry → Model
entry_made m (Entry.Mode l) = mode_put m l
entry_made m (Entry.Setting p f v) = was_set m p f v
entry_made m (Entry.Row p rate s dc) = entered m p rate (share s) (share dc)

abbrev pub taken : Entry → Result (Unit {0}) Refusal → Result Entry Refusal
taken e r = result_map_both (λ _. e) (λ r. r) r

-- 17 where a field is out of order or repeated, then the refusals of the sheet
abbrev pub then_checked : Model → Result Entry Refusal → Result Entry Refusal
then_checked m (Err r) = Err r
then_checked m (Ok e) = cond (in_order m e) (taken e (entry_answer m e)) (Err (card_refusal 17))

-- the field at the start of some bytes, if the sheet m accepts it
unfoldable pub step : Model → List ℕ → Result Entry Refusal
step m bs = then_checked m (entry_at bs)

-- goes on after a field that is accepted; a refusal carries the byte at which the field starts
abbrev pub go_on : ℕ → Result Entry Refusal → (Entry → Result Model CardRefusal) → Result Model CardRefusal
go_on at (Ok e) k = k e
go_on at (Err r) k = Err (at_byte at r)

-- the rest of a card, of which the first k bytes belong to the field before, onto the sheet m; its next field starts at this byte
unfoldable pub reads : List ℕ → ℕ → ℕ → Model → Result Model CardRefusal
reads [] k at m = Ok m
reads (b ∷ bs) (suc k) at m = reads bs k at m
reads (b ∷ bs) zero at m = go_on at (step m (b ∷ bs)) (λ e. reads bs (width e - 1) (at + width e) (entry_made m e))

-- the sheet of a card, or the refusal of its first field that is refused
abbrev pub read : List ℕ → Result Model CardRefusal
read bs = reads bs 0 0 new_model
