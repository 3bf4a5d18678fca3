-- Which words spell a call: its name, and then for each of its parts a word that writes it.
use Rattle.std.specs.Prelude.{◌≡◌, ℕ, ◌<◌, true, List, [], ◌∷◌, length, Some, None, codes, Option}
use Rattle.std.specs.Char.{encode_utf8, IsScalar}
use Rattle.std.specs.Str.Parse.{digits_value}
use Rattle.std.specs.Str.{all_ascii_digits}
use Rattle.line.specs.declared.calls.Call.{Call}
use Rattle.line.specs.declared.calls.Call.TheVariants.{Enter, Strike, Set, Blank, Mode, Clear, Show}
use Rattle.line.specs.Limits.{number_limit}

-- the word writes the number: it is one digit or more, zeros in front allowed, and n, below the limit, is its value in base ten
pub record Numeral (w : List ℕ) (n : ℕ) : Type 0 where
  pub digits : all_ascii_digits w ≡ true
  pub some : 0 < length w
  pub writes : digits_value 10 w ≡ n
  pub below : n < number_limit

-- the word writes the share: `-` the blank one, and a numeral one that is given
abbrev pub ShareWord : List ℕ → Option ℕ → Type 0
ShareWord w None = w ≡ codes "-"
ShareWord w (Some n) = Numeral w n

-- the word is the encoding of the one character c
abbrev pub LetterWord : List ℕ → ℕ → Type 0
LetterWord w c = IsScalar c × (w ≡ encode_utf8 c)

-- these words spell this call, with no word left over
abbrev pub Spells : List (List ℕ) → Call → Type 0
Spells ws (Enter place rate safe coverage) = (p : List ℕ) × (r : List ℕ) × (s : List ℕ) × (d : List ℕ) × (ws ≡ codes "enter" ∷ p ∷ r ∷ s ∷ d ∷ []) × Numeral p place × Numeral r rate × ShareWord s safe × ShareWord d coverage
Spells ws (Strike row) = (w : List ℕ) × (ws ≡ codes "strike" ∷ w ∷ []) × Numeral w row
Spells ws (Set place field value) = (p : List ℕ) × (f : List ℕ) × (v : List ℕ) × (ws ≡ codes "set" ∷ p ∷ f ∷ v ∷ []) × Numeral p place × Numeral f field × Numeral v value
Spells ws (Blank place field) = (p : List ℕ) × (f : List ℕ) × (ws ≡ codes "blank" ∷ p ∷ f ∷ []) × Numeral p place × Numeral f field
Spells ws (Mode letter) = (w : List ℕ) × (ws ≡ codes "mode" ∷ w ∷ []) × LetterWord w letter
Spells ws Clear = ws ≡ codes "clear" ∷ []
Spells ws (Show place) = (p : List ℕ) × (ws ≡ codes "show" ∷ p ∷ []) × Numeral p place
