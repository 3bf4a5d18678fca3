-- A card as it grows, field by field: what stands, and then what is still to come, is the whole.
use Rattle.std.proofs.Common.{◌≡◌, ℕ, suc, ◌+◌, ◌*◌, ◌<◌, ◌≤◌, List, [], ◌∷◌, ◌++◌, map, length, get_or, take, drop, Some, None, Option, sym, refl, ap, ◌∙◌, append_assoc, add-one, add-zero, drop-cons, arith, length-append, length-drop, length-take}
use Rattle.std.proofs.lemmas.List.{drop-drop, take-append-drop}
use Rattle.card.specs.declared.entry.Entry.{Entry}
use Rattle.card.proofs.Ordered.{bytes_append}
use Rattle.card.specs.Entries.{bytes, card, field_at, field_bytes, longest_card, mode_entries, place_at, row_entries, row_entry, setting_entries}
use Rattle.sheet.specs.declared.mode.Mode.{Mode}
use Rattle.sheet.specs.declared.row.Row as unit
use Rattle.sheet.specs.Holds.{row_of}
use Rattle.sheet.specs.Model.{Model, Row}
use Rattle.sheet.specs.Sound.{Sound}

-- what stands is no longer than the whole
pub short_part : (now next whole : List ℕ) → now ++ next ≡ whole → length whole ≤ longest_card → length now ≤ longest_card
short_part now next whole e h = omega (arith, ap length e, length-append now next)

setting_append : (i : ℕ) (xs ys : List (Option ℕ)) → setting_entries i (xs ++ ys) ≡ setting_entries i xs ++ setting_entries (i + length xs) ys
setting_append i [] ys = ap (λ n. setting_entries n ys) (sym (add-zero i))
setting_append i (None ∷ xs) ys =
    let n : suc i + length xs ≡ i + suc (length xs) = omega arith in
    setting_append (suc i) xs ys ∙ ap (λ k. setting_entries (suc i) xs ++ setting_entries k ys) n
setting_append i (Some v ∷ xs) ys =
    let n : suc i + length xs ≡ i + suc (length xs) = omega arith in
    ap (λ l. Entry.Setting (place_at i) (field_at i) v ∷ l)
    (setting_append (suc i) xs ys ∙ ap (λ k. setting_entries (suc i) xs ++ setting_entries k ys) n)

-- how long the parts are
pub settings_length : (i : ℕ) (xs : List (Option ℕ)) → length (bytes (setting_entries i xs)) ≤ 9 * length xs
settings_length i [] = omega arith
settings_length i (None ∷ xs) = let h = settings_length (suc i) xs in omega arith
settings_length i (Some v ∷ xs) = let h = settings_length (suc i) xs in omega arith

pub rows_length : (rs : List Row) → length (bytes (row_entries rs)) ≡ 12 * length rs
rows_length [] = refl
rows_length (r ∷ rs) = let h = rows_length rs in omega arith

pub mode_length : (o : Option Mode) → length (bytes (mode_entries o)) ≤ 4
mode_length None = omega arith
mode_length (Some k) = omega arith

-- the fields of a place, of which k have passed
module _ (now whole : List ℕ) (p k : ℕ) (rest : List (Option ℕ)) (eight : k + suc (length rest) ≡ 8) where
  pub field_next : (f v : ℕ) → f ≡ k + 1 → now ++ bytes (setting_entries (8 * p + k) (Some v ∷ rest)) ≡ whole
      → (now ++ field_bytes (Entry.Setting p f v)) ++ bytes (setting_entries (8 * p + (k + 1)) rest) ≡ whole
  field_next f v q e =
      let x : place_at (8 * p + k) ≡ p = omega arith in
      let y : field_at (8 * p + k) ≡ f = omega arith in
      let z : suc (8 * p + k) ≡ 8 * p + (k + 1) = omega arith in
      append_assoc now _ _ ∙ rw (x, y, z) at e

  pub blank_next : now ++ bytes (setting_entries (8 * p + k) (None ∷ rest)) ≡ whole → now ++ bytes (setting_entries (8 * p + (k + 1)) rest) ≡ whole
  blank_next e = let z : suc (8 * p + k) ≡ 8 * p + (k + 1) = omega arith in rw z at e

-- the places, of which p have passed
pub place_next : (now whole : List ℕ) (p : ℕ) (fs : List (Option ℕ)) → 8 * p + 8 ≤ length fs → now ++ bytes (setting_entries (8 * p) (drop (8 * p) fs)) ≡ whole
    → (now ++ bytes (setting_entries (8 * p) (take 8 (drop (8 * p) fs)))) ++ bytes (setting_entries (8 * (p + 1)) (drop (8 * (p + 1)) fs)) ≡ whole
place_next now whole p fs h e =
    let ds : List (Option ℕ) = drop (8 * p) fs in
    let n8 : 8 * p + 8 ≡ 8 * (p + 1) = omega arith in
    let n : length (take 8 ds) ≡ 8 = rw (length-take, length-drop) (omega arith) in
    let m : 8 * p + length (take 8 ds) ≡ 8 * (p + 1) = omega arith in
    let k : drop 8 ds ≡ drop (8 * (p + 1)) fs = drop-drop 8 (8 * p) fs ∙ ap (λ i. drop i fs) n8 in
    append_assoc now _ _
    ∙ rw (sym (take-append-drop 8 ds), setting_append (8 * p) (take 8 ds) (drop 8 ds), bytes_append, m, k) at e

-- the rows, of which i have passed
pub row_next : (now whole : List ℕ) (i : ℕ) (rs : List unit.Row) (r : unit.Row) → i < length rs → r ≡ get_or rs i r → now ++ bytes (row_entries (map row_of (drop i rs))) ≡ whole
    → (now ++ field_bytes (row_entry (row_of r))) ++ bytes (row_entries (map row_of (drop (i + 1) rs))) ≡ whole
row_next now whole i rs r h q e =
    let first : drop i rs ≡ r ∷ drop (i + 1) rs = rw add-one (drop-cons rs i r h ∙ ap (λ x. x ∷ drop (suc i) rs) (sym q)) in
    append_assoc now _ _ ∙ rw first at e

-- the whole card
pub card_parts : (m : Model) → (bytes (mode_entries m.mode) ++ bytes (setting_entries 0 m.fields)) ++ bytes (row_entries m.rows) ≡ card m
unfolding card
card_parts m =
    append_assoc (bytes (mode_entries m.mode)) _ _
    ∙ sym (bytes_append (mode_entries m.mode) (setting_entries 0 m.fields ++ row_entries m.rows)
    ∙ ap (λ l. bytes (mode_entries m.mode) ++ l) (bytes_append (setting_entries 0 m.fields) (row_entries m.rows)))

pub card_short : (m : Model) → Sound m → length (card m) ≤ 1348
card_short m s =
    let a = mode_length m.mode in
    let b = settings_length 0 m.fields in
    let c = rows_length m.rows in
    let d = ap length (card_parts m) in
    let e = length-append (bytes (mode_entries m.mode) ++ bytes (setting_entries 0 m.fields)) (bytes (row_entries m.rows)) in
    let f = length-append (bytes (mode_entries m.mode)) (bytes (setting_entries 0 m.fields)) in
    omega (arith, s.all_fields_stand, s.few_rows)

pub settings_short : (m : Model) → Sound m → length (bytes (mode_entries m.mode) ++ bytes (setting_entries 0 m.fields)) ≤ 1348
settings_short m s = short_part _ (bytes (row_entries m.rows)) (card m) (card_parts m) (card_short m s)
