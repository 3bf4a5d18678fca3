-- The fields of a sheet's card, and their bytes.
use Rattle.std.specs.Prelude.{ℕ, suc, ◌+◌, ◌/◌, ◌%◌, cond, List, [], ◌∷◌, ◌++◌, map, length, Some, None, Option, ◌==◌}
use Rattle.std.specs.List.{flat_map}
use Rattle.std.specs.Option.{unwrap_or}
use Rattle.card.specs.declared.entry.Entry.{Entry}
use Rattle.card.specs.declared.tag.Tag.{Tag}
use Rattle.card.specs.Tags.{byte_of}
use Rattle.sheet.specs.declared.mode.Mode.{Mode}
use Rattle.sheet.specs.Model.{Model, Row}

-- a number in two and in four bytes, the high one first
abbrev pub two_bytes : ℕ → List ℕ
two_bytes n = n / 256 % 256 ∷ n % 256 ∷ []

abbrev pub four_bytes : ℕ → List ℕ
four_bytes n = n / 16777216 % 256 ∷ n / 65536 % 256 ∷ n / 256 % 256 ∷ n % 256 ∷ []

-- the kind of a field, its byte, and the bytes of its value
abbrev pub tag_of : Entry → Tag
tag_of (Entry.Mode l) = Tag.Mode
tag_of (Entry.Setting p f v) = Tag.Setting
tag_of (Entry.Row p rate s dc) = Tag.Row

abbrev pub tag : Entry → ℕ
tag e = byte_of (tag_of e)

abbrev pub value_bytes : Entry → List ℕ
value_bytes (Entry.Mode l) = l ∷ []
value_bytes (Entry.Setting p f v) = p ∷ f ∷ four_bytes v
value_bytes (Entry.Row p rate s dc) = p ∷ four_bytes rate ++ two_bytes s ++ two_bytes dc

-- one byte of tag, two bytes of length, then the value
abbrev pub field_bytes : Entry → List ℕ
field_bytes e = tag e ∷ two_bytes (length (value_bytes e)) ++ value_bytes e

abbrev pub bytes : List Entry → List ℕ
bytes es = flat_map field_bytes es

-- how many bytes a field takes
abbrev pub width : Entry → ℕ
width e = length (field_bytes e)

-- the letters of the modes, L and H
abbrev pub mode_letter : Mode → ℕ
mode_letter Mode.Low = 76
mode_letter Mode.High = 72

abbrev pub mode_entries : Option Mode → List Entry
mode_entries None = []
mode_entries (Some k) = Entry.Mode (mode_letter k) ∷ []

-- place and field of the field at index i, eight for each place
abbrev pub place_at : ℕ → ℕ
place_at i = i / 8

abbrev pub field_at : ℕ → ℕ
field_at i = i % 8 + 1

-- the settings that are not blank, where the first of these fields stands at index i
abbrev pub setting_entries : ℕ → List (Option ℕ) → List Entry
setting_entries i [] = []
setting_entries i (None ∷ fs) = setting_entries (suc i) fs
setting_entries i (Some v ∷ fs) = Entry.Setting (place_at i) (field_at i) v ∷ setting_entries (suc i) fs

-- a share by its number on the card, where 65,535 is blank
abbrev pub share : ℕ → Option ℕ
share n = cond (n == 65535) None (Some n)

abbrev pub share_number : Option ℕ → ℕ
share_number s = unwrap_or s 65535

abbrev pub row_entry : Row → Entry
row_entry r = Entry.Row r.place r.rate (share_number r.safe) (share_number r.coverage)

abbrev pub row_entries : List Row → List Entry
row_entries rs = map row_entry rs

-- the mode first, then the settings rising by place and field, then the rows in order of entry
abbrev pub entries : Model → List Entry
entries m = mode_entries m.mode ++ (setting_entries 0 m.fields ++ row_entries m.rows)

-- the card of a sheet
unfoldable pub card : Model → List ℕ
card m = bytes (entries m)

-- the most bytes that a card has: a mode, 64 settings and 64 rows
abbrev pub longest_card : ℕ
longest_card = 1348
