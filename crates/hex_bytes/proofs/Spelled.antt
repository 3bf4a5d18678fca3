-- A word is read just where it writes bytes, and the word of bytes writes them.
use Rattle.std.proofs.Common.{◌≡◌, ℕ, ◌+◌, ◌-◌, ◌*◌, ◌/◌, ◌%◌, ◌<◌, ◌≤◌, Bool, true, false, cond, ◌&&◌, eqb, ltb, leb, List, [], ◌∷◌, length, Some, None, Ok, Err, codes, Option, refl, inl, inr, ⊎_elim, arith}
use Rattle.std.proofs.lemmas.Slice.Eq.{bytes_eq-Decides}
use Rattle.std.proofs.lemmas.Bool.{and_right, cond_both, le-ltb, ltb-false}
use Rattle.std.proofs.lemmas.Bool.Decides.{nat_tests}
use Rattle.std.specs.List.{AllByRecursion}
use Rattle.std.specs.Str.{bytes_eq}
use Rattle.hex_bytes.specs.declared.reading.NotHex.TheVariants.{NotPairs, TooLong}
use Rattle.hex_bytes.specs.Digits.{before, byte_of, character, digit_of, hex_of, hex_text, hex_word}
use Rattle.hex_bytes.specs.Capacity.{capacity}
use Rattle.hex_bytes.specs.Reading.{bytes_of, from_hex_of, kept_or, longest}
use Rattle.hex_bytes.specs.Writing.{Digit, Pairs, Writes}

-- a digit is read as the number that it stands for, and no other character is read
digit_some : (c n : ℕ) → Digit c n → digit_of c ≡ Some n
digit_some c n h = ⊎_elim
    (λ (d : (c ≡ 48 + n) × (n < 10)). grind (arith, nat_tests))
    (λ d. ⊎_elim (λ (e : c + 10 ≡ 97 + n). grind (arith, nat_tests, d.1, d.2)) (λ (e : c + 10 ≡ 65 + n). grind (arith, nat_tests, d.1, d.2)) d.0)
    h

some_digit : (c n : ℕ) → digit_of c ≡ Some n → Digit c n
some_digit c n h =
    let P : Option ℕ → Type 0 = λ o. o ≡ Some n → Digit c n in
    cond_both (leb 48 c && leb c 57) _ _ P (λ t k. let e : c - 48 ≡ n = cc in inl (grind (arith, nat_tests), grind (arith, nat_tests)))
    (λ _. cond_both (leb 97 c && leb c 102) _ _ P (λ t k. let e : c - 97 + 10 ≡ n = cc in inr (inl (grind (arith, nat_tests)), grind (arith, nat_tests), grind (arith, nat_tests)))
    (λ _. cond_both (leb 65 c && leb c 70) _ _ P (λ t k. let e : c - 65 + 10 ≡ n = cc in inr (inr (grind (arith, nat_tests)), grind (arith, nat_tests), grind (arith, nat_tests)))
    (λ _ k. cc))) h

-- a digit is below sixteen
digit_below : (c n : ℕ) → Digit c n → n < 16
digit_below c n h = ⊎_elim (λ d. omega (arith, d.1)) (λ d. d.2) h

-- pairs of digits are read as the bytes that they write, and nothing else is
pairs_hex : (w bs : List ℕ) → Pairs w bs → hex_of w ≡ Some bs
pairs_hex w [] h = rw h refl
pairs_hex w (b ∷ bs) h = rw (h.5, digit_some h.0 h.2 h.6, digit_some h.1 h.3 h.7, pairs_hex h.4 bs h.9, h.8) refl

pairs_by : (x y : ℕ) (cs bs : List ℕ) (m n : Option ℕ) (o : Option (List ℕ)) → digit_of x ≡ m → digit_of y ≡ n → hex_of cs ≡ o → ((ds : List ℕ) → hex_of cs ≡ Some ds → Pairs cs ds) → before (byte_of m n) o ≡ Some bs → Pairs (x ∷ y ∷ cs) bs
pairs_by x y cs bs None n o e f g r h = cc
pairs_by x y cs bs (Some m) None o e f g r h = cc
pairs_by x y cs bs (Some m) (Some n) None e f g r h = cc
pairs_by x y cs [] (Some m) (Some n) (Some ds) e f g r h = cc
pairs_by x y cs (b ∷ bs) (Some m) (Some n) (Some ds) e f g r h = (x, y, m, n, cs, refl, some_digit x m e, some_digit y n f, (cc), r bs (cc))

hex_pairs : (w bs : List ℕ) → hex_of w ≡ Some bs → Pairs w bs
hex_pairs [] [] h = refl
hex_pairs [] (b ∷ bs) h = cc
hex_pairs (x ∷ []) bs h = cc
hex_pairs (x ∷ y ∷ cs) bs h = pairs_by x y cs bs (digit_of x) (digit_of y) (hex_of cs) refl refl refl (hex_pairs cs) h

-- there are two characters for each byte
pairs_length : (w bs : List ℕ) → Pairs w bs → length w ≡ 2 * length bs
pairs_length w [] h = rw h refl
pairs_length w (b ∷ bs) h = rw h.5 (omega (arith, pairs_length h.4 bs h.9))

pairs_below : (w bs : List ℕ) → Pairs w bs → AllByRecursion (λ b. b < 256) bs
pairs_below w [] h = tt
pairs_below w (b ∷ bs) h = (omega (arith, h.8, digit_below h.0 h.2 h.6, digit_below h.1 h.3 h.7), pairs_below h.4 bs h.9)

-- the bytes that a word writes are bytes
pub writes_below : (w bs : List ℕ) → Writes w bs → AllByRecursion (λ b. b < 256) bs
writes_below w [] h = tt
writes_below w (b ∷ bs) h = pairs_below w (b ∷ bs) h

-- a word writes bytes that can be kept just where it is not too long
writes_short : (w bs : List ℕ) → Writes w bs → length bs ≤ capacity → length w ≤ longest
writes_short w [] h l = rw h (omega arith)
writes_short w (b ∷ bs) h l = omega (arith, pairs_length w (b ∷ bs) h)

writes_few : (w bs : List ℕ) → Writes w bs → length w ≤ longest → length bs ≤ capacity
writes_few w [] h l = omega arith
writes_few w (b ∷ bs) h l = omega (arith, pairs_length w (b ∷ bs) h)

-- the bytes of a word are those that it writes
writes_bytes : (w bs : List ℕ) → Writes w bs → bytes_of w ≡ Some bs
writes_bytes w [] h = rw h refl
writes_bytes w (b ∷ bs) h =
    let l : length w ≡ 2 * length (b ∷ bs) = pairs_length w (b ∷ bs) h in
    let n : eqb (length w) 0 ≡ false = grind (arith, nat_tests) in
    let d : bytes_eq w (codes "-") ≡ false = rw h.5 (and_right (eqb h.0 45) _ refl) in
    rw (n, d) (pairs_hex w (b ∷ bs) h)

bytes_by : (p q : Bool) (w bs : List ℕ) → eqb (length w) 0 ≡ p → bytes_eq w (codes "-") ≡ q → cond p None (cond q (Some []) (hex_of w)) ≡ Some bs → Writes w bs
bytes_by true q w bs e f h = cc
bytes_by false true w [] e f h = (bytes_eq-Decides w (codes "-")).0 f
bytes_by false true w (b ∷ bs) e f h = cc
bytes_by false false w [] e f h = let k : w ≡ [] = hex_pairs w [] h in let z : true ≡ false = rw k at e in let y : ◌≡◌ {A = ℕ} 0 1 = cc in absurd (omega arith)
bytes_by false false w (b ∷ bs) e f h = hex_pairs w (b ∷ bs) h

bytes_writes : (w bs : List ℕ) → bytes_of w ≡ Some bs → Writes w bs
bytes_writes w bs h = bytes_by (eqb (length w) 0) (bytes_eq w (codes "-")) w bs refl refl h

-- both ways for a word that is read
pub writes_read : (w bs : List ℕ) → Writes w bs → length bs ≤ capacity → from_hex_of w ≡ Ok bs
writes_read w bs h l = rw (le-ltb longest (length w) (writes_short w bs h l), writes_bytes w bs h) refl

-- what a word that was read writes
read_by : (p : Bool) (o : Option (List ℕ)) (w bs : List ℕ) → ltb longest (length w) ≡ p → bytes_of w ≡ o → cond p (Err TooLong) (kept_or o) ≡ Ok bs → Writes w bs × (length bs ≤ capacity)
read_by false (Some ds) w bs e f h =
    let d : ds ≡ bs = cc in
    let k : Writes w bs = rw d at (bytes_writes w ds f) in
    (k, writes_few w bs k (ltb-false longest (length w) e))
read_by false None w bs e f h = cc
read_by true o w bs e f h = cc

pub read_writes : (w bs : List ℕ) → from_hex_of w ≡ Ok bs → Writes w bs × (length bs ≤ capacity)
read_writes w bs h = read_by (ltb longest (length w)) (bytes_of w) w bs refl refl h

-- the digits of a byte are read as the byte
digit_character : (n : ℕ) → n < 16 → digit_of (character n) ≡ Some n
digit_character n h = grind (arith, nat_tests)

pub hex_back : (bs : List ℕ) → AllByRecursion (λ b. b < 256) bs → hex_of (hex_text bs) ≡ Some bs
hex_back [] h = refl
hex_back (b ∷ bs) h =
    let lt : b / 16 < 16 = omega (arith, h.0) in
    let m : b % 16 < 16 = omega arith in
    let e : b / 16 * 16 + b % 16 ≡ b = omega arith in
    rw (digit_character (b / 16) lt, digit_character (b % 16) m, hex_back bs h.1, e) refl

-- the word of bytes writes them
pub word_writes : (bs : List ℕ) → AllByRecursion (λ b. b < 256) bs → Writes (hex_word bs) bs
word_writes [] h = refl
word_writes (b ∷ bs) h = hex_pairs (hex_text (b ∷ bs)) (b ∷ bs) (hex_back (b ∷ bs) h)

-- pairs of digits are read as the bytes that they write, and other words that are not `-` are told as no pairs
pub from_some : (w bs : List ℕ) → length w ≤ longest → eqb (length w) 0 ≡ false → bytes_eq w (codes "-") ≡ false → Some bs ≡ hex_of w → Ok bs ≡ from_hex_of w
from_some w bs l e d q = rw (le-ltb longest (length w) l, e, d, ← q) refl

pub from_none : (w : List ℕ) → length w ≤ longest → eqb (length w) 0 ≡ false → bytes_eq w (codes "-") ≡ false → None ≡ hex_of w → Err NotPairs ≡ from_hex_of w
from_none w l e d q = rw (le-ltb longest (length w) l, e, d, ← q) refl
