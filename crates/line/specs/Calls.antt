-- The call that a list of words makes, or why it makes none.
use Rattle.std.specs.Prelude.{ℕ, cond, List, [], ◌∷◌, Some, None, Ok, Err, codes, Option, Result}
use Rattle.std.specs.Str.{bytes_eq}
use Rattle.line.specs.declared.calls.Call.{Call}
use Rattle.line.specs.declared.calls.Call.TheVariants.{Enter, Strike, Set, Blank, Mode, Clear, Show}
use Rattle.line.specs.declared.calls.NotCall.{NotCall}
use Rattle.line.specs.declared.calls.NotCall.TheVariants.{UnknownName, WordMissing, TooManyWords}
use Rattle.line.specs.Values.{letter_of, number_of, share_of}

-- what one word writes, with the words after it
abbrev pub with_rest : {X : Type 0} → Result X NotCall → List (List ℕ) → Result (X × List (List ℕ)) NotCall
with_rest (Ok x) ws = Ok (x, ws)
with_rest (Err e) ws = Err e

-- what the first word writes, with the words after it
abbrev pub first_as : {X : Type 0} → (List ℕ → Result X NotCall) → List (List ℕ) → Result (X × List (List ℕ)) NotCall
first_as value_of [] = Err WordMissing
first_as value_of (w ∷ ws) = with_rest (value_of w) ws

-- goes on with the value and the words after it, unless a word was wrong
abbrev pub and_then : {X : Type 0} → Result (X × List (List ℕ)) NotCall → (X → List (List ℕ) → Result Call NotCall) → Result Call NotCall
and_then (Ok p) go = go p.0 p.1
and_then (Err e) go = Err e

-- the call, where no word is left
abbrev pub end_of : Call → List (List ℕ) → Result Call NotCall
end_of c [] = Ok c
end_of c (w ∷ ws) = Err TooManyWords

-- the words after each name: numbers, and for `enter` two shares, for `mode` a letter
abbrev pub enter_of : List (List ℕ) → Result Call NotCall
enter_of ws = and_then (first_as number_of ws) (λ place ws. and_then (first_as number_of ws) (λ rate ws. and_then (first_as share_of ws) (λ safe ws. and_then (first_as share_of ws) (λ coverage ws. end_of (Enter place rate safe coverage) ws))))

abbrev pub strike_of : List (List ℕ) → Result Call NotCall
strike_of ws = and_then (first_as number_of ws) (λ row ws. end_of (Strike row) ws)

abbrev pub set_of : List (List ℕ) → Result Call NotCall
set_of ws = and_then (first_as number_of ws) (λ place ws. and_then (first_as number_of ws) (λ field ws. and_then (first_as number_of ws) (λ value ws. end_of (Set place field value) ws)))

abbrev pub blank_of : List (List ℕ) → Result Call NotCall
blank_of ws = and_then (first_as number_of ws) (λ place ws. and_then (first_as number_of ws) (λ field ws. end_of (Blank place field) ws))

abbrev pub mode_of : List (List ℕ) → Result Call NotCall
mode_of ws = and_then (first_as letter_of ws) (λ letter ws. end_of (Mode letter) ws)

abbrev pub show_of : List (List ℕ) → Result Call NotCall
show_of ws = and_then (first_as number_of ws) (λ place ws. end_of (Show place) ws)

-- the call of this name, with the words after the name
abbrev pub named_of : List ℕ → List (List ℕ) → Result Call NotCall
named_of name ws =
    cond (bytes_eq name (codes "enter")) (enter_of ws)
    (cond (bytes_eq name (codes "strike")) (strike_of ws)
    (cond (bytes_eq name (codes "set")) (set_of ws)
    (cond (bytes_eq name (codes "blank")) (blank_of ws)
    (cond (bytes_eq name (codes "mode")) (mode_of ws)
    (cond (bytes_eq name (codes "clear")) (end_of Clear ws)
    (cond (bytes_eq name (codes "show")) (show_of ws)
    (Err UnknownName)))))))

-- a call is what a line with words makes
abbrev pub made_call : Result Call NotCall → Result (Option Call) NotCall
made_call (Ok c) = Ok (Some c)
made_call (Err e) = Err e

-- no words are no call, and no mistake
abbrev pub call_of : List (List ℕ) → Result (Option Call) NotCall
call_of [] = Ok None
call_of (name ∷ ws) = made_call (named_of name ws)
