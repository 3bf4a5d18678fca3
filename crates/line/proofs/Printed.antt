-- A call that is printed on a line is read again.
use Rattle.std.proofs.Common.{◌≡◌, ℕ, ◌<◌, Bool, true, ◌&&◌, ltb, List, [], ◌∷◌, ◌++◌, length, get_or, Some, None, Ok, codes, IsUtf8, decimal, Option, sym, refl, ap, ◌∙◌, append-nil, one-add, arith}
use Rattle.std.specs.Char.{encode_utf8}
use Rattle.std.proofs.ByRecursion.{IsAscii-from_all, All-from_get_or, All-weaker}
use Rattle.std.proofs.lemmas.Str.Parse.{tells_all_ascii_digits}
use Rattle.std.proofs.lemmas.Bool.{and_from, and_parts, lt-ltb, ltb-true}
use Rattle.std.proofs.lemmas.Str.{inside_one, length-encode, IsUtf8-append, IsUtf8-encode, IsUtf8-from_ascii, IsUtf8-from_is_utf8, is_utf8-from_IsUtf8, len_utf8_bounds}
use Rattle.std.proofs.lemmas.Bool.Decides.{nat_tests}
use Rattle.std.specs.Int.{IsInRange}
use Rattle.std.specs.List.{AllByRecursion}
use Rattle.std.specs.Str.{all_ascii_digits}
use Rattle.line.specs.declared.calls.Call.{Call}
use Rattle.line.specs.declared.calls.Call.TheVariants.{Enter, Strike, Set, Blank, Mode, Clear, Show}
use Rattle.line.specs.Limits.{number_limit}
use Rattle.line.specs.Words.{comment_mark, space, uncommented, words}
use Rattle.line.specs.Calls.{call_of}
use Rattle.line.specs.Reading.{read_of}
use Rattle.line.specs.Spelling.{Spells}
use Rattle.line.specs.Texts.{share_text, call_words, spaced, call_text, Writable, Letter, Printable}
use Rattle.line.proofs.Splits.{Plain}
use Rattle.line.proofs.Numerals.{decimal_numeral, text_share}
use Rattle.line.proofs.Spelled.{spells_call, call_printable}

-- a text that is one word
record IsWord (w : List ℕ) : Type 0 where
  pub some : 0 < length w
  pub plain : AllByRecursion Plain w
  pub text : IsUtf8 w

words_one : (c : ℕ) (cs : List ℕ) → AllByRecursion Plain (c ∷ cs) → words (c ∷ cs) ≡ (c ∷ cs) ∷ []
words_one c [] h = rw h.0.0 refl
words_one c (d ∷ ds) h = rw (h.0.0, words_one d ds h.1, h.1.0.0) refl

words_more : (c : ℕ) (cs rest : List ℕ) → AllByRecursion Plain (c ∷ cs) → words ((c ∷ cs) ++ space ∷ rest) ≡ (c ∷ cs) ∷ words rest
words_more c [] rest h = rw h.0.0 refl
words_more c (d ∷ ds) rest h = rw (h.0.0, words_more d ds rest h.1, h.1.0.0) refl

words_spaced : (ws : List (List ℕ)) → AllByRecursion IsWord ws → words (spaced ws) ≡ ws
words_spaced [] h = refl
words_spaced ([] ∷ ws) h = absurd (let l : 0 < length {A = ℕ} [] = h.0.some in omega arith)
words_spaced ((c ∷ cs) ∷ []) h = words_one c cs h.0.plain
words_spaced ((c ∷ cs) ∷ v ∷ ws) h = words_more c cs (spaced (v ∷ ws)) h.0.plain ∙ ap (λ (x : List (List ℕ)). (c ∷ cs) ∷ x) (words_spaced (v ∷ ws) h.1)

-- words with spaces between them have no comment
uncommented_word : (w : List ℕ) → AllByRecursion Plain w → uncommented w ≡ w
uncommented_word [] h = refl
uncommented_word (c ∷ cs) h = rw (h.0.1, one-add, uncommented_word cs h.1) refl

uncommented_more : (w rest : List ℕ) → AllByRecursion Plain w → uncommented rest ≡ rest → uncommented (w ++ space ∷ rest) ≡ w ++ space ∷ rest
uncommented_more [] rest h e = rw (one-add, e) refl
uncommented_more (c ∷ cs) rest h e = rw (h.0.1, one-add, uncommented_more cs rest h.1 e) refl

uncommented_spaced : (ws : List (List ℕ)) → AllByRecursion IsWord ws → uncommented (spaced ws) ≡ spaced ws
uncommented_spaced [] h = refl
uncommented_spaced (w ∷ []) h = uncommented_word w h.0.plain
uncommented_spaced (w ∷ v ∷ ws) h = uncommented_more w (spaced (v ∷ ws)) h.0.plain (uncommented_spaced (v ∷ ws) h.1)

-- and are text
text_space : IsUtf8 (space ∷ [])
unfolding encode_utf8
text_space = (space ∷ [], (refl, refl))

text_spaced : (ws : List (List ℕ)) → AllByRecursion IsWord ws → IsUtf8 (spaced ws)
text_spaced [] h = ([], (refl, refl))
text_spaced (w ∷ []) h = h.0.text
text_spaced (w ∷ v ∷ ws) h = IsUtf8-append w (space ∷ spaced (v ∷ ws)) h.0.text (IsUtf8-append (space ∷ []) (spaced (v ∷ ws)) text_space (text_spaced (v ∷ ws) h.1))

-- bytes of ASCII after the comment mark, which comes after the blanks
abbrev visible : List ℕ → Bool
visible [] = true
visible (c ∷ cs) = (ltb comment_mark c && ltb c 128) && visible cs

visible_byte : (c : ℕ) → (ltb comment_mark c && ltb c 128) ≡ true → Plain c × (c < 128)
visible_byte c h = ((grind (arith, nat_tests), grind (arith, nat_tests)), grind (arith, nat_tests))

visible_bytes : (w : List ℕ) → visible w ≡ true → AllByRecursion (λ c. Plain c × (c < 128)) w
visible_bytes [] h = tt
visible_bytes (c ∷ cs) h = let p = and_parts _ (visible cs) h in (visible_byte c p.0, visible_bytes cs p.1)

visible_word : (w : List ℕ) → ltb 0 (length w) ≡ true → visible w ≡ true → IsWord w
visible_word w l h = record {
  some = ltb-true 0 (length w) l;
  plain = All-weaker (λ c. Plain c × (c < 128)) Plain (λ c p. p.0) w (visible_bytes w h);
  text = IsUtf8-from_ascii w (IsAscii-from_all w (All-weaker (λ c. Plain c × (c < 128)) (λ c. c < 128) (λ c p. p.1) w (visible_bytes w h)));
}

-- numbers, shares and letters are words
digit_visible : (c : ℕ) → IsInRange 48 57 c → (ltb comment_mark c && ltb c 128) ≡ true
digit_visible c h = grind (arith, nat_tests)

digits_visible : (w : List ℕ) → all_ascii_digits w ≡ true → visible w ≡ true
digits_visible [] h = refl
digits_visible (c ∷ cs) h = let p = tells_all_ascii_digits.parts c cs h in and_from _ (visible cs) (digit_visible c p.0) (digits_visible cs p.1)

decimal_word : (n : ℕ) → n < number_limit → IsWord (decimal n)
decimal_word n h = let k = decimal_numeral n h in visible_word (decimal n) (lt-ltb 0 (length (decimal n)) k.some) (digits_visible (decimal n) k.digits)

share_word : (s : Option ℕ) → Writable s → IsWord (share_text s)
share_word None h = visible_word (codes "-") refl refl
share_word (Some n) h = decimal_word n h

byte_plain : (b c : ℕ) → Letter c → (b < 128 → c ≡ b) → Plain b
byte_plain b c h e = (grind (arith, nat_tests), grind (arith, nat_tests))

letter_word : (c : ℕ) → Letter c → IsWord (encode_utf8 c)
letter_word c h = record {
  some = rw length-encode (omega (arith, len_utf8_bounds c));
  plain = All-from_get_or Plain (encode_utf8 c) 0 (λ k l. byte_plain (get_or (encode_utf8 c) k 0) c h (λ s. inside_one c [] (encode_utf8 c) k (sym (append-nil (encode_utf8 c))) l s));
  text = IsUtf8-encode c h.0;
}

call_word : (c : Call) → Printable c → AllByRecursion IsWord (call_words c)
call_word (Enter place rate safe coverage) h = (visible_word (codes "enter") refl refl, (decimal_word place h.0, (decimal_word rate h.1, (share_word safe h.2, (share_word coverage h.3, tt)))))
call_word (Strike row) h = (visible_word (codes "strike") refl refl, (decimal_word row h, tt))
call_word (Set place field value) h = (visible_word (codes "set") refl refl, (decimal_word place h.0, (decimal_word field h.1, (decimal_word value h.2, tt))))
call_word (Blank place field) h = (visible_word (codes "blank") refl refl, (decimal_word place h.0, (decimal_word field h.1, tt)))
call_word (Mode letter) h = (visible_word (codes "mode") refl refl, (letter_word letter h, tt))
call_word Clear h = (visible_word (codes "clear") refl refl, tt)
call_word (Show place) h = (visible_word (codes "show") refl refl, (decimal_word place h, tt))

-- the words of a call spell it
call_spelled : (c : Call) → Printable c → Spells (call_words c) c
call_spelled (Enter place rate safe coverage) h = (decimal place, decimal rate, share_text safe, share_text coverage, refl, decimal_numeral place h.0, decimal_numeral rate h.1, text_share safe h.2, text_share coverage h.3)
call_spelled (Strike row) h = (decimal row, refl, decimal_numeral row h)
call_spelled (Set place field value) h = (decimal place, decimal field, decimal value, refl, decimal_numeral place h.0, decimal_numeral field h.1, decimal_numeral value h.2)
call_spelled (Blank place field) h = (decimal place, decimal field, refl, decimal_numeral place h.0, decimal_numeral field h.1)
call_spelled (Mode letter) h = (encode_utf8 letter, refl, (h.0, refl))
call_spelled Clear h = refl
call_spelled (Show place) h = (decimal place, refl, decimal_numeral place h)

-- so what is printed is text, and makes the call
pub text_back : (c : Call) → Printable c → IsUtf8 (call_text c)
text_back c h = text_spaced (call_words c) (call_word c h)

pub call_back : (c : Call) → Printable c → call_of (words (uncommented (call_text c))) ≡ Ok (Some c)
call_back c h = rw (uncommented_spaced (call_words c) (call_word c h), words_spaced (call_words c) (call_word c h)) (spells_call (call_words c) c (call_spelled c h))

pub read_back : (c : Call) → Printable c → read_of (call_text c) ≡ Ok (Some c)
read_back c h = rw (is_utf8-from_IsUtf8 (call_text c) (text_back c h)) (call_back c h)

-- what is known of a line that is read
pub ruleset reading = (IsUtf8-from_is_utf8, is_utf8-from_IsUtf8, call_printable, text_back)
