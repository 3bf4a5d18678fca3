-- Pairs of digits are read as the bytes that they write, and bytes are written as such pairs.
use Rattle.std.proofs.Common.{◌≡◌, ℕ, ◌+◌, ◌/◌, ◌%◌, ◌<◌, List, [], ◌∷◌, ◌++◌, length, get_or, take, Some, None, Option, sym, refl, ap, ◌∙◌, append_assoc, arith}
use Rattle.std.proofs.lemmas.Bool.Decides.{nat_tests}
use Rattle.std.proofs.lemmas.Str.{encode_ascii}
use Rattle.std.specs.Char.{encode_utf8}
use Rattle.std.proofs.lemmas.List.{take_more}
use Rattle.hex_bytes.specs.Digits.{before, character, hex_of, hex_text, pair_of}

-- bytes that were read, before those that are read next, where these are bytes
abbrev pub after : List ℕ → Option (List ℕ) → Option (List ℕ)
after os None = None
after os (Some bs) = Some (os ++ bs)

-- at first none is read, and then one pair more
pub hex_none : (o : Option (List ℕ)) → o ≡ after [] o
hex_none None = refl
hex_none (Some bs) = refl

joins : (os : List ℕ) (b : ℕ) (o : Option (List ℕ)) → after os (before (Some b) o) ≡ after (os ++ (b ∷ [])) o
joins os b None = refl
joins os b (Some bs) = ap (λ (x : List ℕ). Some x) (sym (append_assoc os (b ∷ []) bs))

pub hex_step : (all pair rest os : List ℕ) (b : ℕ) → all ≡ pair ++ rest → Some b ≡ pair_of pair → (length all ≡ 2 + length rest) × (after os (hex_of all) ≡ after (os ++ (b ∷ [])) (hex_of rest))
hex_step all [] rest os b p e = cc
hex_step all (x ∷ []) rest os b p e = cc
hex_step all (x ∷ y ∷ []) rest os b p e = rw (p, ← e) (omega arith, joins os b (hex_of rest))
hex_step all (x ∷ y ∷ z ∷ cs) rest os b p e = cc

-- one byte more is written
hex_append : (xs ys : List ℕ) → hex_text (xs ++ ys) ≡ hex_text xs ++ hex_text ys
hex_append [] ys = refl
hex_append (x ∷ xs) ys = ap (λ (l : List ℕ). character (x / 16) ∷ (character (x % 16) ∷ l)) (hex_append xs ys)

pub hex_more : (xs : List ℕ) (i : ℕ) → i < length xs → hex_text (take (i + 1) xs) ≡ hex_text (take i xs) ++ (character (get_or xs i 0 / 16) ∷ (character (get_or xs i 0 % 16) ∷ []))
hex_more xs i h = ap hex_text (take_more xs i 0 h) ∙ hex_append (take i xs) (get_or xs i 0 ∷ [])

character_ascii : (n : ℕ) → n < 16 → character n < 128
character_ascii n h = grind (arith, nat_tests)

pub pair_text : (a b m n : ℕ) → m < 16 → n < 16 → a ≡ character m → b ≡ character n → encode_utf8 a ++ encode_utf8 b ≡ character m ∷ (character n ∷ [])
pair_text a b m n h k e d = rw (e, d, encode_ascii (character m) (character_ascii m h), encode_ascii (character n) (character_ascii n k)) refl
