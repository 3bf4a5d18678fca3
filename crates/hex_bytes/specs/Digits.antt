-- Digits in base sixteen, and bytes as pairs of them.
use Rattle.std.specs.Prelude.{ℕ, ◌+◌, ◌-◌, ◌*◌, ◌/◌, ◌%◌, cond, ◌&&◌, List, [], ◌∷◌, Some, None, codes, Option, nat_le, nat_lt}

-- the number that a digit stands for: `0` to `9`, `a` to `f` or `A` to `F`
abbrev pub digit_of : ℕ → Option ℕ
digit_of c =
    cond (nat_le 48 c && nat_le c 57) (Some (c - 48))
    (cond (nat_le 97 c && nat_le c 102) (Some (c - 97 + 10))
    (cond (nat_le 65 c && nat_le c 70) (Some (c - 65 + 10))
    None))

-- the byte of two digits, the high half first
abbrev pub byte_of : Option ℕ → Option ℕ → Option ℕ
byte_of None l = None
byte_of (Some h) None = None
byte_of (Some h) (Some l) = Some (h * 16 + l)

-- the byte of a pair of digits, and of fewer or more characters none
abbrev pub pair_of : List ℕ → Option ℕ
pair_of [] = None
pair_of (h ∷ []) = None
pair_of (h ∷ l ∷ []) = byte_of (digit_of h) (digit_of l)
pair_of (h ∷ l ∷ c ∷ cs) = None

-- one byte before the others, where all of them are there
abbrev pub before : Option ℕ → Option (List ℕ) → Option (List ℕ)
before None o = None
before (Some b) None = None
before (Some b) (Some bs) = Some (b ∷ bs)

-- the bytes that pairs of digits write; an odd digit or another character writes none
abbrev pub hex_of : List ℕ → Option (List ℕ)
hex_of [] = Some []
hex_of (h ∷ []) = None
hex_of (h ∷ l ∷ cs) = before (byte_of (digit_of h) (digit_of l)) (hex_of cs)

-- the digit of a number below sixteen, in lower case
abbrev pub character : ℕ → ℕ
character n = cond (nat_lt n 10) (48 + n) (87 + n)

-- two digits for each byte
abbrev pub hex_text : List ℕ → List ℕ
hex_text [] = []
hex_text (b ∷ bs) = character (b / 16) ∷ character (b % 16) ∷ hex_text bs

-- bytes as a word: `-` for none, else two digits for each
abbrev pub hex_word : List ℕ → List ℕ
hex_word [] = codes "-"
hex_word (b ∷ bs) = hex_text (b ∷ bs)
