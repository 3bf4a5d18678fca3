-- The first character of a text that passes a test, as its first byte that does.
use Rattle.std.proofs.Common.{◌≡◌, ℕ, ◌<◌, ◌≤◌, Bool, true, false, List, [], ◌∷◌, ◌++◌, length, get_or, take, drop, Some, None, Option, MatchOption, sym, refl, ap, ◌∙◌, ⊎_elim, arith, add-zero, length-append, length-drop, length-take-le}
use Rattle.std.proofs.ByRecursion.{IsAscii-from_all}
use Rattle.std.proofs.lemmas.Bool.{cases_lt, lt-ltb, le-ltb}
use Rattle.std.proofs.lemmas.List.{get_or-take, get_or-drop}
use Rattle.std.proofs.lemmas.List.Sums.{position_or_len_is}
use Rattle.std.proofs.lemmas.Str.{NoCharPasses-byte, encodes-IsAscii, inside_one, len_utf8_bounds, length-encode}
use Rattle.std.specs.Char.{encode_utf8}
use denote.Param.Members.{Mut}
use Rattle.std.proofs.lemmas.Fn.{always_returns_same}
use Rattle.std.specs.Fn.{AlwaysReturns, Called}
use Rattle.std.specs.List.{position, AllByRecursion}
use Rattle.std.specs.Str.{IsAscii, NoCharPasses, NonePass}
use Rattle.std.specs.Str.Pattern.{FindsBy, HasPassingCharAt, MatchBeginsAt}

-- the test answers b of each code that is not ASCII
abbrev pub AnswersPast : (ℕ → Bool) → Bool → Type 0
AnswersPast p b = (c : ℕ) → 128 ≤ c → p c ≡ b

-- where all of those pass, a text in which none passes is ASCII
ascii_chars : (p : ℕ → Bool) → AnswersPast p true → (cs : List ℕ) → NonePass p cs → AllByRecursion (λ c. c < 128) cs
ascii_chars p e [] h = tt
ascii_chars p e (c ∷ cs) h = (⊎_elim (λ (l : c < 128). l) (λ (l : 128 ≤ c). absurd (let t = e c l in cc)) (cases_lt c 128), ascii_chars p e cs h.1)

ascii_text : (p : ℕ → Bool) → AnswersPast p true → (bs : List ℕ) → NoCharPasses p bs → IsAscii bs
ascii_text p e bs h =
    let a = IsAscii-from_all h.0 (ascii_chars p e h.0 h.2) in
    rw (sym h.1 ∙ encodes-IsAscii h.0 a) a

-- so no byte of a text passes in which no character does
no_byte : (p : ℕ → Bool) (b : Bool) → AnswersPast p b → (bs : List ℕ) → NoCharPasses p bs → (k : ℕ) → k < length bs → p (get_or bs k 0) ≡ false
no_byte p false e bs h k l = ⊎_elim (λ (s : get_or bs k 0 < 128). NoCharPasses-byte p bs k h l s) (λ (s : 128 ≤ get_or bs k 0). e (get_or bs k 0) s) (cases_lt (get_or bs k 0) 128)
no_byte p true e bs h k l = NoCharPasses-byte p bs k h l (ascii_text p e bs h k)

-- and the first byte of a character passes where the character does
high_byte : (bs : List ℕ) (i j c : ℕ) → drop i bs ≡ encode_utf8 c ++ drop j bs → 0 < length (encode_utf8 c) → 128 ≤ c → 128 ≤ get_or bs i 0
high_byte bs i j c h n s =
    let g : get_or (drop i bs) 0 0 ≡ get_or bs i 0 = rw add-zero at (get_or-drop i bs 0 0) in
    ⊎_elim
    (λ (l : get_or (drop i bs) 0 0 < 128). absurd (omega (arith, inside_one c (drop j bs) (drop i bs) 0 h n l)))
    (λ (l : 128 ≤ get_or (drop i bs) 0 0). omega arith)
    (cases_lt (get_or (drop i bs) 0 0) 128)

one_byte : (p : ℕ → Bool) (b : Bool) → AnswersPast p b → (bs : List ℕ) (i j : ℕ) → HasPassingCharAt p bs i j → (i < length bs) × (p (get_or bs i 0) ≡ true)
one_byte p b e bs i j h =
    let c : ℕ = h.0 in
    let n : 0 < length (encode_utf8 c) = rw length-encode (omega (arith, len_utf8_bounds c)) in
    let l : i < length bs = omega (arith, ap length h.2.split, length-append (encode_utf8 c) (drop j bs), length-drop i bs) in
    let t : p (get_or bs i 0) ≡ true =
    ⊎_elim
    (λ (s : c < 128). rw (h.2.byte s) h.1)
    (λ (s : 128 ≤ c). e (get_or bs i 0) (high_byte bs i j c h.2.split n s) ∙ (sym (e c s) ∙ h.1))
    (cases_lt c 128) in
    (l, t)

-- so a search for a character finds where the first byte passes
pub found : {F : Type 0} {g : Mut F (ℕ × Unit {0}) Bool} {f : F} (p : ℕ → Bool) (b : Bool) → AnswersPast p b → (bs : List ℕ) (r : Option ℕ) → MatchOption r ((k : ℕ → Bool) → AlwaysReturns g (λ a x. x ≡ k a.0) f → NoCharPasses k bs) (MatchBeginsAt (λ s o. (k : ℕ → Bool) → AlwaysReturns g (λ a x. x ≡ k a.0) f → FindsBy k s o) bs) → ((a : ℕ × Unit {0}) (x : Bool) (q : F) → Called g f a x q → (x ≡ p a.0) × (q ≡ f)) → r ≡ position p bs
found {g} {f} p b e bs None h a =
    let n = position_or_len_is p bs (length bs) 0 (omega arith) (no_byte p b e bs (h p (always_returns_same g (λ c x. x ≡ p c.0) f a))) (λ l. absurd (omega arith)) in
    rw (n, le-ltb (length bs) (length bs) (omega arith)) refl
found {g} {f} p b e bs (Some i) h a =
    let t = h.1 p (always_returns_same g (λ c x. x ≡ p c.0) f a) in
    let o = one_byte p b e bs i h.0 t.1 in
    let before : (k : ℕ) → k < i → p (get_or bs k 0) ≡ false = λ k l. rw (get_or-take i bs k 0 l) at (no_byte p b e (take i bs) t.0 k (omega (arith, length-take-le i bs))) in
    let n = position_or_len_is p bs i 0 (omega (arith, o.0)) before (λ _. o.1) in
    rw (n, lt-ltb i (length bs) o.0) refl
