-- How the words of a text come from its runs of blanks and of other bytes.
use Rattle.std.proofs.Common.{◌≡◌, ℕ, ◌<◌, ◌≤◌, Bool, true, false, not, eqb, ltb, List, [], ◌∷◌, length, take, drop, Some, None, refl, ⊎_elim, ◌∙◌, ap, suc, get_or, one-add, arith, drop-cons, sym, Decides, Option}
use Rattle.std.proofs.lemmas.Bool.{cases_lt, lt-ltb, le-ltb, not-true}
use Rattle.std.proofs.lemmas.List.Sums.{prefix_len-le-length}
use Rattle.std.proofs.lemmas.List.{drop_all}
use Rattle.std.proofs.lemmas.List.Quantifiers.{position-Some}
use Rattle.std.proofs.lemmas.Option.{cond_some}
use Rattle.std.specs.List.{position, position_or_len, AllByRecursion}
use Rattle.std.specs.Option.{is_some, unwrap_or}
use Rattle.line.specs.Words.{blank, begins, comment_mark, joined, uncommented, words}

-- where the first byte that passes stands, or how many bytes there are
pub place : (p : ℕ → Bool) (bs : List ℕ) → unwrap_or (position p bs) (length bs) ≡ position_or_len p bs
place p bs =
    ⊎_elim
    (λ (l : position_or_len p bs < length bs). rw (lt-ltb (position_or_len p bs) (length bs) l) refl)
    (λ (l : length bs ≤ position_or_len p bs). rw (le-ltb (position_or_len p bs) (length bs) l) (omega (arith, prefix_len-le-length (λ c. not (p c)) bs)))
    (cases_lt (position_or_len p bs) (length bs))

-- how many blanks begin the text, and the text after them
abbrev blanks : List ℕ → ℕ
blanks bs = position_or_len (λ c. not (blank c)) bs

abbrev trimmed : List ℕ → List ℕ
trimmed bs = drop (blanks bs) bs

-- the length of the word that begins the text
abbrev run : List ℕ → ℕ
run bs = position_or_len blank bs

-- blanks before a text change no word
skipped : (b : Bool) (c : ℕ) (cs : List ℕ) → blank c ≡ b → words cs ≡ words (trimmed cs) → words (c ∷ cs) ≡ words (trimmed (c ∷ cs))
skipped true c cs e h = rw (e, one-add) h
skipped false c cs e h = rw (e, e) refl

words_trimmed : (bs : List ℕ) → words bs ≡ words (trimmed bs)
words_trimmed [] = refl
words_trimmed (c ∷ cs) = skipped (blank c) c cs refl (words_trimmed cs)

-- a byte of a word, and then the rest of that word
abbrev Joins : ℕ → List ℕ → Type 0
Joins c cs = joined (begins cs) c (words cs) ≡ (c ∷ take (run cs) cs) ∷ words (drop (run cs) cs)

joins_by : (b : Bool) (c d : ℕ) (ds : List ℕ) → blank d ≡ b → Joins d ds → Joins c (d ∷ ds)
joins_by true c d ds e h = rw (e, e) refl
joins_by false c d ds e h = rw (e, one-add, h) refl

joins : (c : ℕ) (cs : List ℕ) → Joins c cs
joins c [] = refl
joins c (d ∷ ds) = joins_by (blank d) c d ds refl (joins d ds)

words_cut : (c : ℕ) (cs : List ℕ) → blank c ≡ false → words (c ∷ cs) ≡ take (run (c ∷ cs)) (c ∷ cs) ∷ words (drop (run (c ∷ cs)) (c ∷ cs))
words_cut c cs e = rw (e, one-add) (joins c cs)

-- where no byte of a word stands there is no word, and else a word begins with the first
pub words_none : (bs : List ℕ) → position (λ c. not (blank c)) bs ≡ None → words bs ≡ []
words_none bs e =
    ⊎_elim
    (λ (l : blanks bs < length bs). absurd (let k = rw (lt-ltb (blanks bs) (length bs) l) at e in cc))
    (λ (l : length bs ≤ blanks bs). words_trimmed bs ∙ ap words (drop_all (blanks bs) bs l))
    (cases_lt (blanks bs) (length bs))

pub words_some : (bs : List ℕ) (n : ℕ) → position (λ c. not (blank c)) bs ≡ Some n → words bs ≡ take (run (drop n bs)) (drop n bs) ∷ words (drop (run (drop n bs)) (drop n bs))
words_some bs n e =
    let k = position-Some (λ c. not (blank c)) bs n 0 e in
    let b : blank (get_or bs n 0) ≡ false = not-true _ k.1 in
    let s = cond_some (ltb (blanks bs) (length bs)) (blanks bs) n e in
    words_trimmed bs ∙ rw (s.1, drop-cons bs n 0 k.0) (words_cut (get_or bs n 0) (drop (suc n) bs) b)

-- so it tells whether there is a word
pub words_empty : (bs : List ℕ) (r : Bool) (o : Option ℕ) → o ≡ position (λ c. not (blank c)) bs → is_some o ≡ not r → Decides r (words bs ≡ [])
words_empty bs true None e h = (λ _. words_none bs (sym e), λ _. refl)
words_empty bs false None e h = (λ z. cc, λ z. cc)
words_empty bs true (Some n) e h = (λ z. cc, λ z. cc)
words_empty bs false (Some n) e h = (λ z. cc, λ z. let w = words_some bs n (sym e) in cc)

-- a byte of a word: no blank and no comment mark
abbrev pub Plain : ℕ → Type 0
Plain c = (blank c ≡ false) × (eqb c comment_mark ≡ false)

-- the words of a line before its comment have only such bytes
abbrev Unmarked : List ℕ → Type 0
Unmarked bs = AllByRecursion (λ c. eqb c comment_mark ≡ false) bs

unmarked_by : (b : Bool) (c : ℕ) (cs : List ℕ) → eqb c comment_mark ≡ b → Unmarked (uncommented cs) → Unmarked (uncommented (c ∷ cs))
unmarked_by true c cs e h = rw e tt
unmarked_by false c cs e h = rw (e, one-add) (e, h)

unmarked : (bs : List ℕ) → Unmarked (uncommented bs)
unmarked [] = tt
unmarked (c ∷ cs) = unmarked_by (eqb c comment_mark) c cs refl (unmarked cs)

joined_plain : (b : Bool) (c : ℕ) (ws : List (List ℕ)) → Plain c → AllByRecursion (AllByRecursion Plain) ws → AllByRecursion (AllByRecursion Plain) (joined b c ws)
joined_plain false c ws p h = ((p, tt), h)
joined_plain true c [] p h = ((p, tt), tt)
joined_plain true c (w ∷ ws) p h = ((p, h.0), h.1)

plain_by : (b : Bool) (c : ℕ) (cs : List ℕ) → blank c ≡ b → eqb c comment_mark ≡ false → AllByRecursion (AllByRecursion Plain) (words cs) → AllByRecursion (AllByRecursion Plain) (words (c ∷ cs))
plain_by true c cs e m h = rw e h
plain_by false c cs e m h = rw e (joined_plain (begins cs) c (words cs) (e, m) h)

words_plain : (bs : List ℕ) → Unmarked bs → AllByRecursion (AllByRecursion Plain) (words bs)
words_plain [] h = tt
words_plain (c ∷ cs) h = plain_by (blank c) c cs refl h.0 (words_plain cs h.1)

pub line_plain : (line : List ℕ) → AllByRecursion (AllByRecursion Plain) (words (uncommented line))
line_plain line = words_plain (uncommented line) (unmarked line)
