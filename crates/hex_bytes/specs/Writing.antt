-- Which words write which bytes.
use Rattle.std.specs.Prelude.{◌≡◌, ℕ, ◌+◌, ◌*◌, ◌<◌, ◌≤◌, ◌⊎◌, List, [], ◌∷◌, codes}

-- the character is the digit n: `0` to `9`, or from ten on a letter of either case
abbrev pub Digit : ℕ → ℕ → Type 0
Digit c n = ((c ≡ 48 + n) × (n < 10)) ⊎ (((c + 10 ≡ 97 + n) ⊎ (c + 10 ≡ 65 + n)) × (10 ≤ n) × (n < 16))

-- the characters are two digits for each byte, its high half first
abbrev pub Pairs : List ℕ → List ℕ → Type 0
Pairs w [] = w ≡ []
Pairs w (b ∷ bs) = (h : ℕ) × (l : ℕ) × (m : ℕ) × (n : ℕ) × (cs : List ℕ) × (w ≡ h ∷ l ∷ cs) × Digit h m × Digit l n × (b ≡ m * 16 + n) × Pairs cs bs

-- the word writes the bytes: `-` no bytes, and pairs of digits one byte or more
abbrev pub Writes : List ℕ → List ℕ → Type 0
Writes w [] = w ≡ codes "-"
Writes w (b ∷ bs) = Pairs w (b ∷ bs)
