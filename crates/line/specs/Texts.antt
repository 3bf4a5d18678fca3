-- A call as it stands on a line, and the reasons why a line is no call, in words.
use Rattle.std.specs.Prelude.{◌≡◌, ℕ, ◌<◌, false, List, [], ◌∷◌, ◌++◌, Some, None, codes, decimal, Option, ◌≢◌}
use Rattle.std.specs.Char.{encode_utf8, IsScalar}
use Rattle.line.specs.declared.calls.Call.{Call}
use Rattle.line.specs.declared.calls.Call.TheVariants.{Enter, Strike, Set, Blank, Mode, Clear, Show}
use Rattle.line.specs.declared.calls.NotCall.{NotCall}
use Rattle.line.specs.declared.calls.NotCall.TheVariants.{NotText, TooLong, UnknownName, WordMissing, NotNumber, NumberTooLarge, NotLetter, TooManyWords}
use Rattle.line.specs.Limits.{number_limit}
use Rattle.line.specs.Words.{blank, comment_mark, space}

-- a share's number, or `-` where it is blank
abbrev pub share_text : Option ℕ → List ℕ
share_text None = codes "-"
share_text (Some n) = decimal n

-- the words of a call: its name and then its parts
abbrev pub call_words : Call → List (List ℕ)
call_words (Enter place rate safe coverage) = codes "enter" ∷ decimal place ∷ decimal rate ∷ share_text safe ∷ share_text coverage ∷ []
call_words (Strike row) = codes "strike" ∷ decimal row ∷ []
call_words (Set place field value) = codes "set" ∷ decimal place ∷ decimal field ∷ decimal value ∷ []
call_words (Blank place field) = codes "blank" ∷ decimal place ∷ decimal field ∷ []
call_words (Mode letter) = codes "mode" ∷ encode_utf8 letter ∷ []
call_words Clear = codes "clear" ∷ []
call_words (Show place) = codes "show" ∷ decimal place ∷ []

-- the words with one space between them
abbrev pub spaced : List (List ℕ) → List ℕ
spaced [] = []
spaced (w ∷ []) = w
spaced (w ∷ v ∷ ws) = w ++ space ∷ spaced (v ∷ ws)

-- a call as it stands on a line
abbrev pub call_text : Call → List ℕ
call_text c = spaced (call_words c)

-- a share that is blank, or a number that a word can write
abbrev pub Writable : Option ℕ → Type 0
Writable None = Unit {0}
Writable (Some n) = n < number_limit

-- a character that can be a word: it is no blank and begins no comment
abbrev pub Letter : ℕ → Type 0
Letter c = IsScalar c × (blank c ≡ false) × (c ≢ comment_mark)

-- a call that a line can write: its numbers are in range, and its letter can be a word
abbrev pub Printable : Call → Type 0
Printable (Enter place rate safe coverage) = (place < number_limit) × (rate < number_limit) × Writable safe × Writable coverage
Printable (Strike row) = row < number_limit
Printable (Set place field value) = (place < number_limit) × (field < number_limit) × (value < number_limit)
Printable (Blank place field) = (place < number_limit) × (field < number_limit)
Printable (Mode letter) = Letter letter
Printable Clear = Unit {0}
Printable (Show place) = place < number_limit

-- why a line is no call, in words
abbrev pub not_call_text : NotCall → List ℕ
not_call_text NotText = codes "line is not text"
not_call_text TooLong = codes "line is longer than 4096 bytes"
not_call_text UnknownName = codes "no call has this name"
not_call_text WordMissing = codes "a word is missing"
not_call_text NotNumber = codes "not a number"
not_call_text NumberTooLarge = codes "number too large"
not_call_text NotLetter = codes "not a single character"
not_call_text TooManyWords = codes "too many words"
