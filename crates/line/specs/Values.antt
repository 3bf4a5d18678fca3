-- What a word writes: a number, a share or a letter.
use Rattle.std.specs.Prelude.{ℕ, Bool, cond, ◌&&◌, List, [], ◌∷◌, length, Some, None, Ok, Err, codes, Option, Result, nat_lt}
use Rattle.std.specs.Str.Parse.{digits_value}
use Rattle.std.specs.Str.{all_ascii_digits, chars, bytes_eq, is_utf8}
use Rattle.line.specs.declared.calls.NotCall.{NotCall}
use Rattle.line.specs.declared.calls.NotCall.TheVariants.{NotNumber, NumberTooLarge, NotLetter}
use Rattle.line.specs.Limits.{number_limit}

-- one digit or more, and nothing else
abbrev pub is_numeral : List ℕ → Bool
is_numeral w = all_ascii_digits w && nat_lt 0 (length w)

-- the number that a numeral writes in base ten
unfoldable pub number_of : List ℕ → Result ℕ NotCall
number_of w = cond (is_numeral w) (cond (nat_lt (digits_value 10 w) number_limit) (Ok (digits_value 10 w)) (Err NumberTooLarge)) (Err NotNumber)

-- a number is a share that is given
abbrev pub given : Result ℕ NotCall → Result (Option ℕ) NotCall
given (Ok n) = Ok (Some n)
given (Err e) = Err e

-- `-` is the blank share
abbrev pub share_of : List ℕ → Result (Option ℕ) NotCall
share_of w = cond (bytes_eq w (codes "-")) (Ok None) (given (number_of w))

-- the one character of the list
abbrev pub only : List ℕ → Result ℕ NotCall
only [] = Err NotLetter
only (c ∷ []) = Ok c
only (c ∷ d ∷ cs) = Err NotLetter

-- the character of a word that is text of a single one
unfoldable pub letter_of : List ℕ → Result ℕ NotCall
letter_of w = cond (is_utf8 w) (only (chars w)) (Err NotLetter)
