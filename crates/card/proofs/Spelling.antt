-- The bytes that a field was read from are its own.
use Rattle.std.proofs.Common.{◌≡◌, ℕ, zero, suc, ◌+◌, ◌*◌, ◌<◌, ◌≤◌, true, false, ltb, List, [], ◌∷◌, ◌++◌, map, length, get_or, take, drop, Ok, Result, sym, ap, ◌∙◌, arith, length-append}
use Rattle.std.proofs.lemmas.Bool.{le-ltb}
use Rattle.std.proofs.lemmas.Bool.Decides.{nat_tests}
use Rattle.std.proofs.lemmas.List.{get_or-take, length-take-le, take-append-drop}
use Rattle.std.proofs.lemmas.List.FromFn.{fill_by_all}
use Rattle.std.specs.List.{range_with_len}
use Rattle.card.specs.declared.entry.Entry.{Entry}
use Rattle.card.specs.Entries.{field_bytes, four_bytes, two_bytes, width}
use Rattle.card.specs.Laws.{AllBytes, Taken, TakesFields}
use Rattle.card.specs.Reading.{entry_answer, entry_at, four_at, in_order, step, then_checked, two_at, value_of}
use Rattle.card.proofs.Takes.{no_refusal}
use Rattle.card.proofs.Written.{step_of}
use Rattle.sheet.specs.declared.fault.Refusal.{Refusal}
use Rattle.sheet.specs.Model.{Model}

-- the bytes of a list, one by one
spell : (bs : List ℕ) (n : ℕ) → n ≤ length bs → bs ≡ map (λ j. get_or bs j 0) (range_with_len 0 n) ++ drop n bs
spell bs n h =
    sym (take-append-drop n bs)
    ∙ ap (λ s. s ++ drop n bs) (fill_by_all (λ j. get_or bs j 0) (take n bs) n 0 (length-take-le n bs h) (λ k l. get_or-take n bs k 0 l))

-- each number is a byte, and past the end stands 0
abbrev Fit : List ℕ → Type 0
Fit bs = (i : ℕ) → get_or bs i 0 < 256

fit : (bs : List ℕ) → AllBytes bs → Fit bs
fit [] by i = omega arith
fit (b ∷ bs) by zero = by.0
fit (b ∷ bs) by (suc i) = fit bs by.1 i

four_are : (a b c d : ℕ) → a < 256 → b < 256 → c < 256 → d < 256
    → four_bytes (a * 16777216 + b * 65536 + c * 256 + d) ≡ a ∷ b ∷ c ∷ d ∷ []
four_are a b c d ha hb hc hd = grind arith

two_are : (a b : ℕ) → a < 256 → b < 256 → two_bytes (a * 256 + b) ≡ a ∷ b ∷ []
two_are a b ha hb = grind arith

-- the tag, the length and the value of what is read
module _ (t n : ℕ) (bs : List ℕ) where
  is_mode : (l : ℕ) → value_of t n bs ≡ Ok (Entry.Mode l) → (t ≡ 1) × (n ≡ 1) × (1 ≤ length bs) × (l ≡ get_or bs 0 0)
  is_mode l q = grind (arith, nat_tests)

  is_setting : (p f v : ℕ) → value_of t n bs ≡ Ok (Entry.Setting p f v)
      → (t ≡ 2) × (n ≡ 6) × (6 ≤ length bs) × (Entry.Setting p f v ≡ Entry.Setting (get_or bs 0 0) (get_or bs 1 0) (four_at bs 2))
  is_setting p f v q = (grind (arith, nat_tests), grind (arith, nat_tests), grind (arith, nat_tests), grind (arith, nat_tests))

  is_row : (p r s c : ℕ) → value_of t n bs ≡ Ok (Entry.Row p r s c)
      → (t ≡ 3) × (n ≡ 9) × (9 ≤ length bs) × (Entry.Row p r s c ≡ Entry.Row (get_or bs 0 0) (four_at bs 1) (two_at bs 5) (two_at bs 7))
  is_row p r s c q = (grind (arith, nat_tests), grind (arith, nat_tests), grind (arith, nat_tests), grind (arith, nat_tests))

value_spelled : (t h l : ℕ) (bs : List ℕ) (e : Entry) → Fit bs → l < 256 → value_of t (h * 256 + l) bs ≡ Ok e
    → t ∷ h ∷ l ∷ bs ≡ field_bytes e ++ drop (width e) (t ∷ h ∷ l ∷ bs)
value_spelled t h l bs (Entry.Mode m) a k q =
    let i = is_mode t (h * 256 + l) bs m q in
    let x : h ≡ 0 = omega (arith, i.1) in
    let y : l ≡ 1 = omega (arith, i.1) in
    let w = spell bs 1 i.2 in cc
value_spelled t h l bs (Entry.Setting p f v) a k q =
    let i = is_setting t (h * 256 + l) bs p f v q in
    let x : h ≡ 0 = omega (arith, i.1) in
    let y : l ≡ 6 = omega (arith, i.1) in
    let w = spell bs 6 i.2 in
    let z = four_are _ _ _ _ (a 2) (a 3) (a 4) (a 5) in cc
value_spelled t h l bs (Entry.Row p r s c) a k q =
    let i = is_row t (h * 256 + l) bs p r s c q in
    let x : h ≡ 0 = omega (arith, i.1) in
    let y : l ≡ 9 = omega (arith, i.1) in
    let w = spell bs 9 i.2 in
    let z = four_are _ _ _ _ (a 1) (a 2) (a 3) (a 4) in
    let u = two_are _ _ (a 5) (a 6) in
    let v = two_are _ _ (a 7) (a 8) in cc

-- what a field was read from
pub entry_spelled : (bs : List ℕ) (e : Entry) → Fit bs → entry_at bs ≡ Ok e → bs ≡ field_bytes e ++ drop (width e) bs
unfolding entry_at
entry_spelled [] e by q = cc
entry_spelled (t ∷ []) e by q = cc
entry_spelled (t ∷ h ∷ []) e by q = cc
entry_spelled (t ∷ h ∷ l ∷ bs) e by q =
    let z : ltb (length (t ∷ h ∷ l ∷ bs)) 3 ≡ false = le-ltb _ _ (omega arith) in
    value_spelled t h l bs e (λ i. by (suc (suc (suc i)))) (by 2) (rw z at q)

pub field_fits : (bs : List ℕ) (e : Entry) → bs ≡ field_bytes e ++ drop (width e) bs → width e ≤ length bs
field_fits bs e q =
    let l : length bs ≡ width e + length (drop (width e) bs) = ap length q ∙ length-append (field_bytes e) (drop (width e) bs) in
    omega arith

-- what is accepted was read, is in order, and its call is not refused
module _ (m : Model) (r : Result Entry Refusal) (e : Entry) (q : then_checked m r ≡ Ok e) where
  was_read : r ≡ Ok e
  was_read = grind arith

  was_ordered : in_order m e ≡ true
  was_ordered = grind arith

  was_answered : entry_answer m e ≡ Ok tt
  was_answered = grind arith

taken_from : (m : Model) (bs : List ℕ) (e : Entry) → AllBytes bs → step m bs ≡ Ok e → Taken m bs e
unfolding step
taken_from m bs e by q =
    record {
      rest = drop (width e) bs;
      begins = entry_spelled bs e (fit bs by) (was_read m _ e q);
      ordered = was_ordered m _ e q;
      call_answered = was_answered m _ e q;
    }

taken_to : (m : Model) (bs : List ℕ) (e : Entry) → Taken m bs e → step m bs ≡ Ok e
taken_to m bs e t =
    ap (step m) t.begins ∙ step_of m e t.rest t.ordered (no_refusal m e (sym t.call_answered))

pub takes_fields : TakesFields
takes_fields m bs e = (taken_from m bs e, taken_to m bs e)
