-- What a word of digits writes, and what `parse` reads of it.
use Rattle.std.proofs.Common.{◌≡◌, ℕ, ◌^◌, ◌<◌, Bool, true, false, cond, ◌&&◌, eqb, ltb, List, [], ◌∷◌, length, Some, None, Ok, Err, codes, decimal, Option, Result, MatchResult, sym, refl, ⊎_elim, arith}
use Rattle.std.proofs.lemmas.Slice.Eq.{bytes_eq-Decides}
use Rattle.std.proofs.lemmas.Str.Parse.{IsNumeralModel, numerals_by_value, tells_all_ascii_digits, parse_digits}
use Rattle.std.proofs.lemmas.Fmt.{digits_decimal, digits_value-decimal, decimal_nonempty}
use Rattle.std.proofs.lemmas.Bool.{and_from, and_parts, cases_lt, lt-ltb, le-ltb, ltb-true}
use Rattle.std.proofs.Math.Bool.{and-true}
use Rattle.std.proofs.lemmas.List.Recursion.{same_from_clauses}
use Rattle.std.specs.Char.{is_ascii_digit}
use Rattle.std.specs.List.{list_all}
use Rattle.std.proofs.lemmas.Bool.Decides.{nat_tests}
use Rattle.std.specs.Result.{OkIff}
use Rattle.std.specs.Str.Parse.{digits_value, ParsesUnsigned}
use Rattle.std.specs.Str.{all_ascii_digits, bytes_eq}
use Rattle.line.specs.declared.calls.NotCall.{NotCall}
use Rattle.line.specs.declared.calls.NotCall.TheVariants.{NotNumber, NumberTooLarge}
use Rattle.line.specs.Limits.{number_limit}
use Rattle.line.specs.Spelling.{Numeral, ShareWord}
use Rattle.line.specs.Texts.{Writable, share_text}
use Rattle.line.specs.Values.{given, is_numeral, number_of, share_of}

own : IsNumeralModel (λ ds. all_ascii_digits ds ≡ true) (digits_value 10)
own = numerals_by_value _ tells_all_ascii_digits

-- a word of digits alone is a numeral, unless it is empty
pub digits_all : (w : List ℕ) → 0 < length w → list_all is_ascii_digit w ≡ is_numeral w
digits_all w l =
    let e : list_all is_ascii_digit w ≡ all_ascii_digits w = same_from_clauses (list_all is_ascii_digit) all_ascii_digits (λ c b. is_ascii_digit c && b) refl (λ _ _. refl) (λ _ _. refl) w in
    rw (e, lt-ltb 0 (length w) l) (sym (and-true (all_ascii_digits w)))

-- a word that is no numeral is no number
pub not_numeral : (w : List ℕ) → is_numeral w ≡ false → Err NotNumber ≡ number_of w
unfolding number_of
not_numeral w e = rw e refl

-- what `parse` answers at a numeral is its number, unless that is too large
converted : {E : Type 0} (w : List ℕ) (r : Result ℕ E) (q : Result ℕ NotCall) → is_numeral w ≡ true → 0 < length w → OkIff r ((0 < length w) × (digits_value 10 w < 2 ^ 32)) (digits_value 10 w) → MatchResult r (λ n. q ≡ Ok n) (λ _. q ≡ Err NumberTooLarge) → q ≡ number_of w
unfolding number_of
converted w (Ok n) q e l h k = rw (k, e, lt-ltb (digits_value 10 w) number_limit h.0.1, h.1) refl
converted w (Err x) q e l h k = rw (k, e, le-ltb (digits_value 10 w) number_limit (⊎_elim (λ k. absurd (h (l, k))) (λ k. k) (cases_lt (digits_value 10 w) number_limit))) refl

pub number_parsed : {E : Type 0} (w : List ℕ) (r : Result ℕ E) (q : Result ℕ NotCall) → is_numeral w ≡ true → ParsesUnsigned 32 10 w r → MatchResult r (λ n. q ≡ Ok n) (λ _. q ≡ Err NumberTooLarge) → q ≡ number_of w
number_parsed w r q e h k =
    let p = and_parts (all_ascii_digits w) _ e in
    converted w r q e (ltb-true 0 (length w) p.1) (parse_digits own 32 w r h p.0) k

-- a numeral is read as its number, and nothing else is read as a number
pub numeral_number : (w : List ℕ) (n : ℕ) → Numeral w n → number_of w ≡ Ok n
numeral_number w n h =
    let t : is_numeral w ≡ true = and_from (all_ascii_digits w) _ h.digits (lt-ltb 0 (length w) h.some) in
    let l : digits_value 10 w < number_limit = rw h.writes h.below in
    sym (converted {E = NotCall} w (Ok n) (Ok n) t h.some ((h.some, l), sym h.writes) refl)

numeral_by : (a b : Bool) (w : List ℕ) (n : ℕ) → is_numeral w ≡ a → ltb (digits_value 10 w) number_limit ≡ b → cond a (cond b (Ok (digits_value 10 w)) (Err NumberTooLarge)) (Err NotNumber) ≡ Ok n → Numeral w n
numeral_by true true w n e l h =
    let p = and_parts (all_ascii_digits w) _ e in
    let v : digits_value 10 w ≡ n = cc in
    record { digits = p.0; some = ltb-true 0 (length w) p.1; writes = v; below = rw v at (ltb-true (digits_value 10 w) number_limit l) }
numeral_by true false w n e l h = absurd (cc)
numeral_by false b w n e l h = absurd (cc)

pub number_numeral : (w : List ℕ) (n : ℕ) → number_of w ≡ Ok n → Numeral w n
unfolding number_of
number_numeral w n h = numeral_by (is_numeral w) (ltb (digits_value 10 w) number_limit) w n refl refl h

-- so it is with the words that write a share
not_blank_share : (w : List ℕ) → all_ascii_digits w ≡ true → bytes_eq w (codes "-") ≡ false
not_blank_share [] h = refl
not_blank_share (c ∷ cs) h = let p = tells_all_ascii_digits.parts c cs h in let e : eqb c 45 ≡ false = grind (arith, nat_tests, p.0) in rw e refl

pub word_share : (w : List ℕ) (s : Option ℕ) → ShareWord w s → share_of w ≡ Ok s
word_share w None h = rw h refl
word_share w (Some n) h = rw (not_blank_share w h.digits, numeral_number w n h) refl

share_by : (b : Bool) (r : Result ℕ NotCall) (w : List ℕ) (s : Option ℕ) → bytes_eq w (codes "-") ≡ b → number_of w ≡ r → cond b (Ok None) (given r) ≡ Ok s → ShareWord w s
share_by true r w None e f h = (bytes_eq-Decides w (codes "-")).0 e
share_by true r w (Some n) e f h = absurd (cc)
share_by false (Ok m) w None e f h = absurd (cc)
share_by false (Ok m) w (Some n) e f h = number_numeral w n (cc)
share_by false (Err x) w s e f h = absurd (cc)

pub share_word : (w : List ℕ) (s : Option ℕ) → share_of w ≡ Ok s → ShareWord w s
share_word w s h = share_by (bytes_eq w (codes "-")) (number_of w) w s refl refl h

-- a number that is written in decimal is a numeral
pub decimal_numeral : (n : ℕ) → n < number_limit → Numeral (decimal n) n
decimal_numeral n h = record { digits = digits_decimal own n (omega arith); some = decimal_nonempty n (omega arith); writes = digits_value-decimal own n (omega arith); below = h }

pub text_share : (s : Option ℕ) → Writable s → ShareWord (share_text s) s
text_share None h = refl
text_share (Some n) h = decimal_numeral n h
