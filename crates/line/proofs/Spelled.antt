-- A call is read from the words that spell it, and from no others.
use Rattle.std.proofs.Common.{◌≡◌, ℕ, ◌<◌, ◌≤◌, Bool, true, false, cond, List, [], ◌∷◌, Some, None, Ok, Err, codes, Option, Result, refl, ⊎_elim, arith}
use Rattle.std.specs.Char.{encode_utf8, IsScalar}
use Rattle.std.proofs.lemmas.Slice.Eq.{bytes_eq-Decides}
use Rattle.std.proofs.lemmas.Bool.{cases_lt, cond_both}
use Rattle.std.proofs.lemmas.Str.{encode_ascii, IsUtf8-encode}
use Rattle.std.proofs.lemmas.Bool.Decides.{nat_tests}
use Rattle.std.specs.List.{AllByRecursion}
use Rattle.std.specs.Str.{bytes_eq, is_utf8}
use Rattle.line.specs.declared.calls.Call.{Call}
use Rattle.line.specs.declared.calls.Call.TheVariants.{Enter, Strike, Set, Blank, Mode, Clear, Show}
use Rattle.line.specs.declared.calls.NotCall.{NotCall}
use Rattle.line.specs.Words.{uncommented, words}
use Rattle.line.specs.Values.{letter_of, number_of, share_of}
use Rattle.line.specs.Calls.{with_rest, first_as, and_then, end_of, enter_of, strike_of, set_of, blank_of, mode_of, show_of, named_of, made_call, call_of}
use Rattle.line.specs.declared.calls.NotCall.TheVariants.{NotText}
use Rattle.line.specs.Reading.{read_of}
use Rattle.line.specs.Spelling.{ShareWord, LetterWord, Spells}
use Rattle.line.specs.Texts.{Writable, Letter, Printable}
use Rattle.line.proofs.Splits.{Plain, line_plain}
use Rattle.line.proofs.Numerals.{numeral_number, number_numeral, word_share, share_word}
use Rattle.line.proofs.Characters.{letter_encode, letter_word}

-- words that spell a call make it
word_letter : (w : List ℕ) (c : ℕ) → LetterWord w c → letter_of w ≡ Ok c
word_letter w c h = rw h.1 (letter_encode c (IsUtf8-encode c h.0))

pub spells_call : (ws : List (List ℕ)) (c : Call) → Spells ws c → call_of ws ≡ Ok (Some c)
spells_call ws (Enter place rate safe coverage) h = rw (h.4, numeral_number h.0 place h.5, numeral_number h.1 rate h.6, word_share h.2 safe h.7, word_share h.3 coverage h.8) refl
spells_call ws (Strike row) h = rw (h.1, numeral_number h.0 row h.2) refl
spells_call ws (Set place field value) h = rw (h.3, numeral_number h.0 place h.4, numeral_number h.1 field h.5, numeral_number h.2 value h.6) refl
spells_call ws (Blank place field) h = rw (h.2, numeral_number h.0 place h.3, numeral_number h.1 field h.4) refl
spells_call ws (Mode letter) h = rw (h.1, word_letter h.0 letter h.2) refl
spells_call ws Clear h = rw h refl
spells_call ws (Show place) h = rw (h.1, numeral_number h.0 place h.2) refl

-- where a call was read, there was a word for the part at hand, and the rest was read after it
record Taken {X : Type 0} (f : List ℕ → Result X NotCall) (ws : List (List ℕ)) (go : X → List (List ℕ) → Result Call NotCall) (c : Call) : Type 0 where
  pub word : List ℕ
  pub rest : List (List ℕ)
  pub part : X
  pub cut : ws ≡ word ∷ rest
  pub reads : f word ≡ Ok part
  pub after : go part rest ≡ Ok c

taken_by : {X : Type 0} (f : List ℕ → Result X NotCall) (w : List ℕ) (ws : List (List ℕ)) (go : X → List (List ℕ) → Result Call NotCall) (c : Call) (r : Result X NotCall) → f w ≡ r → and_then (with_rest r ws) go ≡ Ok c → Taken f (w ∷ ws) go c
taken_by f w ws go c (Ok x) e h = record { word = w; rest = ws; part = x; cut = refl; reads = e; after = h }
taken_by f w ws go c (Err n) e h = absurd (cc)

taken : {X : Type 0} (f : List ℕ → Result X NotCall) (ws : List (List ℕ)) (go : X → List (List ℕ) → Result Call NotCall) (c : Call) → and_then (first_as f ws) go ≡ Ok c → Taken f ws go c
taken f [] go c h = absurd (cc)
taken f (w ∷ ws) go c h = taken_by f w ws go c (f w) refl h

-- and at its end no word was left
ended : (k : Call) (ws : List (List ℕ)) (c : Call) → end_of k ws ≡ Ok c → (ws ≡ []) × (k ≡ c)
ended k [] c h = (refl, cc)
ended k (w ∷ ws) c h = absurd (cc)

-- so the words of each kind of call spell it
enter_spells : (name : List ℕ) (ws : List (List ℕ)) (c : Call) → name ≡ codes "enter" → enter_of ws ≡ Ok c → Spells (name ∷ ws) c
enter_spells name ws c n e =
    let p = taken number_of ws _ c e in
    let r = taken number_of p.rest _ c p.after in
    let s = taken share_of r.rest _ c r.after in
    let d = taken share_of s.rest _ c s.after in
    let z = ended (Enter p.part r.part s.part d.part) d.rest c d.after in
    rw (← z.1) (p.word, r.word, s.word, d.word, (cc), number_numeral p.word p.part p.reads, number_numeral r.word r.part r.reads, share_word s.word s.part s.reads, share_word d.word d.part d.reads)

strike_spells : (name : List ℕ) (ws : List (List ℕ)) (c : Call) → name ≡ codes "strike" → strike_of ws ≡ Ok c → Spells (name ∷ ws) c
strike_spells name ws c n e =
    let p = taken number_of ws _ c e in
    let z = ended (Strike p.part) p.rest c p.after in
    rw (← z.1) (p.word, (cc), number_numeral p.word p.part p.reads)

set_spells : (name : List ℕ) (ws : List (List ℕ)) (c : Call) → name ≡ codes "set" → set_of ws ≡ Ok c → Spells (name ∷ ws) c
set_spells name ws c n e =
    let p = taken number_of ws _ c e in
    let f = taken number_of p.rest _ c p.after in
    let v = taken number_of f.rest _ c f.after in
    let z = ended (Set p.part f.part v.part) v.rest c v.after in
    rw (← z.1) (p.word, f.word, v.word, (cc), number_numeral p.word p.part p.reads, number_numeral f.word f.part f.reads, number_numeral v.word v.part v.reads)

blank_spells : (name : List ℕ) (ws : List (List ℕ)) (c : Call) → name ≡ codes "blank" → blank_of ws ≡ Ok c → Spells (name ∷ ws) c
blank_spells name ws c n e =
    let p = taken number_of ws _ c e in
    let f = taken number_of p.rest _ c p.after in
    let z = ended (Blank p.part f.part) f.rest c f.after in
    rw (← z.1) (p.word, f.word, (cc), number_numeral p.word p.part p.reads, number_numeral f.word f.part f.reads)

mode_spells : (name : List ℕ) (ws : List (List ℕ)) (c : Call) → name ≡ codes "mode" → mode_of ws ≡ Ok c → Spells (name ∷ ws) c
mode_spells name ws c n e =
    let p = taken letter_of ws _ c e in
    let z = ended (Mode p.part) p.rest c p.after in
    rw (← z.1) (p.word, (cc), letter_word p.word p.part p.reads)

clear_spells : (name : List ℕ) (ws : List (List ℕ)) (c : Call) → name ≡ codes "clear" → end_of Clear ws ≡ Ok c → Spells (name ∷ ws) c
clear_spells name ws c n e = let z = ended Clear ws c e in rw (← z.1) (cc)

show_spells : (name : List ℕ) (ws : List (List ℕ)) (c : Call) → name ≡ codes "show" → show_of ws ≡ Ok c → Spells (name ∷ ws) c
show_spells name ws c n e =
    let p = taken number_of ws _ c e in
    let z = ended (Show p.part) p.rest c p.after in
    rw (← z.1) (p.word, (cc), number_numeral p.word p.part p.reads)

named_spells : (name : List ℕ) (ws : List (List ℕ)) (c : Call) → named_of name ws ≡ Ok c → Spells (name ∷ ws) c
named_spells name ws c =
    let P : Result Call NotCall → Type 0 = λ r. r ≡ Ok c → Spells (name ∷ ws) c in
    let same : (t : List ℕ) → bytes_eq name t ≡ true → name ≡ t = λ t. (bytes_eq-Decides name t).0 in
    cond_both (bytes_eq name (codes "enter")) _ _ P (λ t. enter_spells name ws c (same (codes "enter") t))
    (λ _. cond_both (bytes_eq name (codes "strike")) _ _ P (λ t. strike_spells name ws c (same (codes "strike") t))
    (λ _. cond_both (bytes_eq name (codes "set")) _ _ P (λ t. set_spells name ws c (same (codes "set") t))
    (λ _. cond_both (bytes_eq name (codes "blank")) _ _ P (λ t. blank_spells name ws c (same (codes "blank") t))
    (λ _. cond_both (bytes_eq name (codes "mode")) _ _ P (λ t. mode_spells name ws c (same (codes "mode") t))
    (λ _. cond_both (bytes_eq name (codes "clear")) _ _ P (λ t. clear_spells name ws c (same (codes "clear") t))
    (λ _. cond_both (bytes_eq name (codes "show")) _ _ P (λ t. show_spells name ws c (same (codes "show") t))
    (λ _ h. absurd (cc))))))))

made_by : (name : List ℕ) (ws : List (List ℕ)) (c : Call) (r : Result Call NotCall) → named_of name ws ≡ r → made_call r ≡ Ok (Some c) → Spells (name ∷ ws) c
made_by name ws c (Ok k) e h = named_spells name ws c (cc)
made_by name ws c (Err n) e h = absurd (cc)

pub call_spells : (ws : List (List ℕ)) (c : Call) → call_of ws ≡ Ok (Some c) → Spells ws c
call_spells [] c h = absurd (cc)
call_spells (name ∷ ws) c h = made_by name ws c (named_of name ws) refl h

-- a call that was read can be printed
share_writable : (w : List ℕ) (s : Option ℕ) → ShareWord w s → Writable s
share_writable w None h = tt
share_writable w (Some n) h = h.below

plain_letter : (c : ℕ) → IsScalar c → AllByRecursion Plain (encode_utf8 c) → Letter c
plain_letter c s h = ⊎_elim
    (λ (l : c < 128). let p = rw (encode_ascii c l) at h in (s, p.0.0, grind (arith, nat_tests, p.0.1)))
    (λ (l : 128 ≤ c). (s, grind (arith, nat_tests), omega arith))
    (cases_lt c 128)

spelled_printable : (ws : List (List ℕ)) (c : Call) → AllByRecursion (AllByRecursion Plain) ws → Spells ws c → Printable c
spelled_printable ws (Enter place rate safe coverage) a h = (h.5.below, h.6.below, share_writable h.2 safe h.7, share_writable h.3 coverage h.8)
spelled_printable ws (Strike row) a h = h.2.below
spelled_printable ws (Set place field value) a h = (h.4.below, h.5.below, h.6.below)
spelled_printable ws (Blank place field) a h = (h.3.below, h.4.below)
spelled_printable ws (Mode letter) a h = let p = rw h.1 at a in plain_letter letter h.2.0 (rw h.2.1 at p.1.0)
spelled_printable ws Clear a h = tt
spelled_printable ws (Show place) a h = h.2.below

pub call_printable : (line : List ℕ) (c : Call) → call_of (words (uncommented line)) ≡ Ok (Some c) → Printable c
call_printable line c h = spelled_printable (words (uncommented line)) c (line_plain line) (call_spells (words (uncommented line)) c h)

-- the same of what a line is read as, and so of what a buffer answers
accepted_by : (b : Bool) (line : List ℕ) (c : Call) → is_utf8 line ≡ b → cond b (call_of (words (uncommented line))) (Err NotText) ≡ Ok (Some c) → (is_utf8 line ≡ true) × Spells (words (uncommented line)) c
accepted_by true line c e h = (e, call_spells (words (uncommented line)) c h)
accepted_by false line c e h = cc

pub read_accepted : (line : List ℕ) (c : Call) → read_of line ≡ Ok (Some c) → (is_utf8 line ≡ true) × Spells (words (uncommented line)) c
read_accepted line c h = accepted_by (is_utf8 line) line c refl h

pub read_spelled : (line : List ℕ) (c : Call) → is_utf8 line ≡ true → Spells (words (uncommented line)) c → read_of line ≡ Ok (Some c)
read_spelled line c e h = rw e (spells_call (words (uncommented line)) c h)

pub read_printable : (line : List ℕ) (c : Call) → read_of line ≡ Ok (Some c) → Printable c
read_printable line c h = spelled_printable (words (uncommented line)) c (line_plain line) (read_accepted line c h).1
