-- How a line falls into words, and where its comment begins.
use Rattle.std.specs.Prelude.{ℕ, Bool, true, false, cond, not, ◌||◌, List, [], ◌∷◌, ◌==◌}
use Rattle.std.specs.List.{before_first}

abbrev pub space : ℕ
space = 32

-- space, tab, carriage return and line feed
abbrev pub blank : ℕ → Bool
blank c = c == space || (c == 9 || (c == 13 || c == 10))

-- `#`, which begins a comment
abbrev pub comment_mark : ℕ
comment_mark = 35

-- the line up to its first comment mark
abbrev pub uncommented : List ℕ → List ℕ
uncommented line = before_first (λ c. c == comment_mark) line

-- the text begins with a byte of a word
abbrev pub begins : List ℕ → Bool
begins [] = false
begins (c ∷ cs) = not (blank c)

-- the words, where one more byte stands before them: it joins the first, or is a word of its own
abbrev pub joined : Bool → ℕ → List (List ℕ) → List (List ℕ)
joined false c ws = (c ∷ []) ∷ ws
joined true c [] = (c ∷ []) ∷ []
joined true c (w ∷ ws) = (c ∷ w) ∷ ws

-- the words of a text: its longest runs of bytes that are not blank
abbrev pub words : List ℕ → List (List ℕ)
words [] = []
words (c ∷ cs) = cond (blank c) (words cs) (joined (begins cs) c (words cs))
