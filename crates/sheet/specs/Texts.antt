-- What a fault means, in words.
use Rattle.std.specs.Prelude.{ℕ, List, codes}
use Rattle.sheet.specs.declared.fault.Fault.{Fault}

abbrev pub meaning_text : Fault → List ℕ
meaning_text (Fault.PlaceOver p i) = codes "place over 7"
meaning_text (Fault.RateOutside p) = codes "rate outside 1 to 100000000"
meaning_text (Fault.ShareOver p) = codes "safe share or coverage over 1000"
meaning_text (Fault.SheetFull p) = codes "64 rows stand already"
meaning_text (Fault.RowBeyond r) = codes "no such row"
meaning_text (Fault.FieldOutside p f) = codes "field not 1 to 8"
meaning_text (Fault.ValueOutside p f) = codes "value outside the limits of its field"
meaning_text Fault.LetterUnknown = codes "mode letter not L or H"
meaning_text (Fault.RowsMissing p) = codes "place without rows"
meaning_text (Fault.ShareBlank p r) = codes "safe share or coverage blank"
