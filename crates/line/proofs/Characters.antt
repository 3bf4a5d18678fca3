-- The single character of a word that is text.
use Rattle.std.proofs.Common.{◌≡◌, ℕ, Bool, true, false, cond, List, [], ◌∷◌, Ok, Err, IsUtf8, Result, ◌≢◌, MatchResult, sym, refl, ap, ◌∙◌, append-nil}
use Rattle.std.proofs.lemmas.Bool.{and_parts}
use Rattle.std.proofs.lemmas.Str.{chars_past_char, chars-nil, encodes-chars, scalars-chars, IsUtf8-from_is_utf8, is_utf8-from_IsUtf8}
use Rattle.std.specs.Char.{encode_utf8, IsScalar}
use Rattle.std.specs.Str.{chars, is_utf8, all_scalars, encode_utf8_all}
use Rattle.std.specs.Str.Parse.{ParsesChar}
use Rattle.line.specs.declared.calls.NotCall.{NotCall}
use Rattle.line.specs.declared.calls.NotCall.TheVariants.{NotLetter}
use Rattle.line.specs.Spelling.{LetterWord}
use Rattle.line.specs.Values.{only, letter_of}

-- a word that encodes a single character is that letter
chars_encode : (c : ℕ) → IsUtf8 (encode_utf8 c) → chars (encode_utf8 c) ≡ c ∷ []
chars_encode c u = chars_past_char (encode_utf8 c) [] c u (sym (append-nil (encode_utf8 c))) ∙ ap (λ cs. c ∷ cs) chars-nil

pub letter_encode : (c : ℕ) → IsUtf8 (encode_utf8 c) → letter_of (encode_utf8 c) ≡ Ok c
unfolding letter_of
letter_encode c u = rw (is_utf8-from_IsUtf8 (encode_utf8 c) u, chars_encode c u) (λ i. Ok c)

-- and no other word is one
only_word : (w cs : List ℕ) (c : ℕ) → all_scalars cs ≡ true → encode_utf8_all cs ≡ w → only cs ≡ Ok c → LetterWord w c
only_word w [] c s e h = absurd (cc)
only_word w (d ∷ []) c s e h =
    let t : d ≡ c = cc in
    rw (← t) ((and_parts _ _ s).0, sym e ∙ append-nil (encode_utf8 d))
only_word w (d ∷ f ∷ cs) c s e h = absurd (cc)

letter_by : (b : Bool) (w : List ℕ) (c : ℕ) → is_utf8 w ≡ b → cond b (only (chars w)) (Err NotLetter) ≡ Ok c → LetterWord w c
letter_by true w c e h = let u = IsUtf8-from_is_utf8 w e in only_word w (chars w) c (scalars-chars w u) (encodes-chars w u) h
letter_by false w c e h = absurd (cc)

pub letter_word : (w : List ℕ) (c : ℕ) → letter_of w ≡ Ok c → LetterWord w c
unfolding letter_of
letter_word w c h = letter_by (is_utf8 w) w c refl h

-- what is read of the word is what it writes
no_only : (w cs : List ℕ) → all_scalars cs ≡ true → encode_utf8_all cs ≡ w → ((c : ℕ) → IsScalar c → w ≢ encode_utf8 c) → Err NotLetter ≡ only cs
no_only w [] s e h = refl
no_only w (d ∷ []) s e h = absurd (h d (and_parts _ _ s).0 (sym e ∙ append-nil (encode_utf8 d)))
no_only w (d ∷ f ∷ cs) s e h = refl

pub letter_parsed : {E : Type 0} (w : List ℕ) (r : Result ℕ E) (q : Result ℕ NotCall) → IsUtf8 w → ParsesChar w r → MatchResult r (λ c. q ≡ Ok c) (λ _. q ≡ Err NotLetter) → q ≡ letter_of w
unfolding letter_of
letter_parsed w (Ok c) q u p h = rw (h, p) (sym (letter_encode c (rw p at u)))
letter_parsed w (Err x) q u p h = rw (h, is_utf8-from_IsUtf8 w u) (no_only w (chars w) (scalars-chars w u) (encodes-chars w u) p)
