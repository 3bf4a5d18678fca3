-- A field in order comes last on the card so far, and then decides what may come next.
use Rattle.std.proofs.Common.{◌≡◌, ℕ, zero, suc, ◌+◌, ◌-◌, ◌*◌, ◌<◌, ◌≤◌, Bool, true, false, ◌&&◌, List, [], ◌∷◌, ◌++◌, length, drop, set, Some, None, Option, sym, refl, ap, ◌∙◌, append_assoc, append-nil, arith, length-set}
use Rattle.std.proofs.lemmas.Bool.{and_parts}
use Rattle.std.proofs.lemmas.List.{map-append}
use Rattle.std.proofs.lemmas.List.Concat.{flat_map-append}
use Rattle.std.proofs.lemmas.Bool.Decides.{nat_tests}
use Rattle.card.specs.declared.entry.Entry.{Entry}
use Rattle.card.specs.Entries.{bytes, card, entries, field_at, field_bytes, mode_entries, place_at, row_entries, row_entry, setting_entries, share, share_number, width}
use Rattle.card.specs.Reading.{all_before, before, in_order, none}
use Rattle.card.proofs.Takes.{entry_put, entry_refusal}
use Rattle.card.specs.Helpers.{Last, follows}
use Rattle.card.proofs.Limits.{in_mode}
use Rattle.sheet.proofs.Accepted.{in_set}
use Rattle.sheet.specs.declared.mode.Mode.{Mode}
use Rattle.sheet.specs.Calls.{mode_by}
use Rattle.sheet.specs.Model.{Model, Row, letter_mode, new_model}

pub before_less : (q g p f : ℕ) → before q g p f ≡ true → g ≤ 8 → 1 ≤ f → 8 * q + g < 8 * p + f
before_less q g p f b hg hf = grind (arith, nat_tests)

-- no setting stands from number i on
pub none_after : (fs : List (Option ℕ)) (i p f : ℕ) → 8 * p + f ≤ i → 1 ≤ f → all_before i fs p f ≡ true → setting_entries i fs ≡ []
none_after [] i p f h k b = refl
none_after (None ∷ fs) i p f h k b = none_after fs (suc i) p f (omega arith) k b
none_after (Some v ∷ fs) i p f h k b =
    let l = before_less (place_at i) (field_at i) p f (and_parts _ _ b).0 (omega arith) k in absurd (omega arith)

-- a setting after all that stand
pub settings_set : (fs : List (Option ℕ)) (i j p f v : ℕ) → i + j ≡ 8 * p + (f - 1) → 1 ≤ f → f ≤ 8 → j < length fs → all_before i fs p f ≡ true
    → setting_entries i (set fs j (Some v)) ≡ setting_entries i fs ++ (Entry.Setting p f v ∷ [])
settings_set [] i j p f v e h k l b = absurd (omega arith)
settings_set (None ∷ fs) i zero p f v e h k l b =
    let x : place_at i ≡ p = omega arith in
    let y : field_at i ≡ f = omega arith in
    rw (none_after fs (suc i) p f (omega arith) h b, x, y)
settings_set (Some w ∷ fs) i zero p f v e h k l b =
    let l = before_less (place_at i) (field_at i) p f (and_parts _ _ b).0 (omega arith) h in absurd (omega arith)
settings_set (None ∷ fs) i (suc j) p f v e h k l b = settings_set fs (suc i) j p f v (omega arith) h k (omega arith) b
settings_set (Some w ∷ fs) i (suc j) p f v e h k l b =
    ap (λ s. Entry.Setting (place_at i) (field_at i) w ∷ s) (settings_set fs (suc i) j p f v (omega arith) h k (omega arith) (and_parts _ _ b).1)

share_back : (s : ℕ) → share_number (share s) ≡ s
share_back s = grind (arith, nat_tests)

letter_last : (o : Option Mode) (xs : List Entry) (l : ℕ) → none (mode_entries o ++ xs) ≡ true → Entry.Mode l ∷ xs ≡ (mode_entries o ++ xs) ++ (Entry.Mode l ∷ [])
letter_last None [] l h = refl
letter_last None (x ∷ xs) l h = cc
letter_last (Some k) xs l h = cc

no_lines : (rs : List Row) → none rs ≡ true → row_entries rs ≡ []
no_lines [] h = refl
no_lines (r ∷ rs) h = cc

-- a field in order comes last
pub grows : (n : Model) (e : Entry) → length n.fields ≡ 64 → in_order n e ≡ true → entry_refusal n e ≡ None → entries (entry_put n e) ≡ entries n ++ (e ∷ [])
unfolding in_order
grows n (Entry.Mode l) f o q =
    let k = in_mode l q in
    rw (k.1, k.2) (letter_last n.mode (setting_entries 0 n.fields ++ row_entries n.rows) l o)
grows n (Entry.Setting p g v) f o q =
    let a = and_parts (none n.rows) (all_before 0 n.fields p g) o in
    let i = in_set p g v q in
    rw (no_lines n.rows a.0, settings_set n.fields 0 (8 * p + (g - 1)) p g v (omega arith) i.least i.most (omega (arith, i)) a.1) (simp (append-nil, append_assoc))
grows n (Entry.Row p r s c) f o q =
    rw (map-append row_entry n.rows (record { place = p; rate = r; safe = share s; coverage = share c } ∷ []), share_back s, share_back c) (simp append_assoc)

pub bytes_append : (es ds : List Entry) → bytes (es ++ ds) ≡ bytes es ++ bytes ds
bytes_append es ds = flat_map-append field_bytes es ds

-- and its bytes last on the card
pub card_grows : (n : Model) (e : Entry) → length n.fields ≡ 64 → in_order n e ≡ true → entry_refusal n e ≡ None
    → card (entry_put n e) ≡ card n ++ field_bytes e
unfolding card
card_grows n e f o q =
    ap bytes (grows n e f o q) ∙ bytes_append (entries n) (e ∷ []) ∙ ap (λ l. card n ++ l) (append-nil (field_bytes e))

-- what stood before a field and its rest stands before the rest
pub card_on : (n : Model) (e : Entry) (bs : List ℕ) → length n.fields ≡ 64 → in_order n e ≡ true → entry_refusal n e ≡ None
    → bs ≡ field_bytes e ++ drop (width e) bs → card (entry_put n e) ++ drop (width e) bs ≡ card n ++ bs
card_on n e bs f o q s =
    ap (λ l. l ++ drop (width e) bs) (card_grows n e f o q) ∙ append_assoc (card n) (field_bytes e) (drop (width e) bs)
    ∙ ap (λ l. card n ++ l) (sym s)

none_in : (xs ys : List Entry) → none (xs ++ ys) ≡ true → (none xs ≡ true) × (none ys ≡ true)
none_in [] ys h = (refl, h)
none_in (x ∷ xs) ys h = (cc, cc)

one_in : (xs : List Entry) (e : Entry) → none (xs ++ (e ∷ [])) ≡ false
one_in [] e = refl
one_in (x ∷ xs) e = refl

settings_none : (fs : List (Option ℕ)) (i p f : ℕ) → none (setting_entries i fs) ≡ true → all_before i fs p f ≡ true
settings_none [] i p f h = refl
settings_none (None ∷ fs) i p f h = settings_none fs (suc i) p f h
settings_none (Some v ∷ fs) i p f h = cc

rows_none : (rs : List Row) → none (row_entries rs) ≡ true → none rs ≡ true
rows_none [] h = refl
rows_none (r ∷ rs) h = cc

rows_one : (rs : List Row) (r : Row) → none (rs ++ (r ∷ [])) ≡ false
rows_one [] r = refl
rows_one (x ∷ rs) r = refl

and_trans : (a b : Bool) → (b ≡ true → a ≡ true) → (a && b) ≡ b
and_trans a b h = grind arith

before_trans : (q g p f p' f' : ℕ) → before q g p f ≡ true → before p f p' f' ≡ true → before q g p' f' ≡ true
before_trans q g p f p' f' h k = grind (arith, nat_tests)

-- the last setting decides
all_before_set : (fs : List (Option ℕ)) (i j p f v p' f' : ℕ) → i + j ≡ 8 * p + (f - 1) → 1 ≤ f → f ≤ 8 → j < length fs → all_before i fs p f ≡ true
    → all_before i (set fs j (Some v)) p' f' ≡ before p f p' f'
all_before_set [] i j p f v p' f' e h k l b = absurd (omega arith)
all_before_set (None ∷ fs) i zero p f v p' f' e h k l b =
    let x : place_at i ≡ p = omega arith in
    let y : field_at i ≡ f = omega arith in
    let z = settings_none fs (suc i) p' f' (ap none (none_after fs (suc i) p f (omega arith) h b)) in
    rw (x, y) (grind arith)
all_before_set (Some w ∷ fs) i zero p f v p' f' e h k l b =
    let l = before_less (place_at i) (field_at i) p f (and_parts _ _ b).0 (omega arith) h in absurd (omega arith)
all_before_set (None ∷ fs) i (suc j) p f v p' f' e h k l b = all_before_set fs (suc i) j p f v p' f' (omega arith) h k (omega arith) b
all_before_set (Some w ∷ fs) i (suc j) p f v p' f' e h k l b =
    let a = and_parts (before (place_at i) (field_at i) p f) (all_before (suc i) fs p f) b in
    let x : suc i + j ≡ 8 * p + (f - 1) = omega arith in
    let y : j < length fs = omega arith in
    rw (all_before_set fs (suc i) j p f v p' f' x h k y a.1)
    (and_trans (before (place_at i) (field_at i) p' f') (before p f p' f') (before_trans (place_at i) (field_at i) p f p' f' a.0))

start : (e : Entry) → in_order new_model e ≡ follows None e
unfolding in_order
start (Entry.Mode l) = refl
start (Entry.Setting p f v) = refl
start (Entry.Row p r x c) = refl

pub last_start : Last None new_model
last_start = record { decides = start; all = refl }

decided : (n : Model) (e : Entry) → length n.fields ≡ 64 → in_order n e ≡ true → entry_refusal n e ≡ None → (d : Entry) → in_order (entry_put n e) d ≡ follows (Some e) d
unfolding in_order
decided n (Entry.Mode l) a o q (Entry.Mode l') = ap none (grows n (Entry.Mode l) a o q) ∙ one_in _ _
decided n (Entry.Mode l) a o q (Entry.Setting p f v) =
    let x = none_in (setting_entries 0 n.fields) _ (none_in (mode_entries n.mode) _ o).1 in
    let k = in_mode l q in
    rw k.1 (rw (rows_none _ x.1, settings_none n.fields 0 p f x.0))
decided n (Entry.Mode l) a o q (Entry.Row p r x c) = refl
decided n (Entry.Setting p f v) a o q (Entry.Mode l) = ap none (grows n (Entry.Setting p f v) a o q) ∙ one_in _ _
decided n (Entry.Setting p f v) a o q (Entry.Setting p' f' v') =
    let i = in_set p f v q in
    let x = and_parts (none n.rows) (all_before 0 n.fields p f) o in
    rw x.0 (all_before_set n.fields 0 (8 * p + (f - 1)) p f v p' f' (omega arith) i.least i.most (omega (arith, i)) x.1)
decided n (Entry.Setting p f v) a o q (Entry.Row p' r x c) = refl
decided n (Entry.Row p r x c) a o q (Entry.Mode l) = ap none (grows n (Entry.Row p r x c) a o q) ∙ one_in _ _
decided n (Entry.Row p r x c) a o q (Entry.Setting p' f' v) = rw (rows_one n.rows (record { place = p; rate = r; safe = share x; coverage = share c }))
decided n (Entry.Row p r x c) a o q (Entry.Row p' r' x' c') = refl

mode_all : (o : Option Mode) (n : Model) → length n.fields ≡ 64 → length (mode_by o n).fields ≡ 64
mode_all None n f = f
mode_all (Some k) n f = f

still_all : (n : Model) (e : Entry) → length n.fields ≡ 64 → length (entry_put n e).fields ≡ 64
still_all n (Entry.Mode l) f = mode_all (letter_mode l) n f
still_all n (Entry.Setting p g v) f = length-set _ _ _ ∙ f
still_all n (Entry.Row p r s c) f = f

pub last_on : (n : Model) (e : Entry) → length n.fields ≡ 64 → in_order n e ≡ true → entry_refusal n e ≡ None → Last (Some e) (entry_put n e)
last_on n e a o q = record { decides = decided n e a o q; all = still_all n e a }
