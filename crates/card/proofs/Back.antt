-- A card is read as the sheet that it was written from.
use Rattle.std.proofs.Common.{◌≡◌, ℕ, zero, suc, ◌+◌, ◌-◌, ◌*◌, ◌<◌, ◌≤◌, true, false, eqb, List, [], ◌∷◌, ◌++◌, length, get_or, replicate, Some, None, Ok, Err, Option, sym, refl, ap, ◌∙◌, append_assoc, append-nil, add-zero, zero-add, arith, length-append}
use Rattle.std.proofs.lemmas.Bool.{and_from}
use Rattle.std.proofs.lemmas.List.{set_at}
use Rattle.std.proofs.lemmas.Bool.Decides.{nat_tests}
use Rattle.std.specs.List.{slice_get}
use Rattle.card.specs.declared.entry.Entry.{Entry}
use Rattle.card.specs.Entries.{bytes, card, field_at, place_at, row_entries, row_entry, setting_entries, share, share_number, width}
use Rattle.card.specs.Laws.{OneSheet, RefusedAt}
use Rattle.card.specs.Reading.{all_before, before, entry_made, go_on, in_order, read, reads, step}
use Rattle.card.proofs.Takes.{entry_refusal}
use Rattle.card.proofs.Written.{reads_entry}
use Rattle.card.specs.declared.fault.CardRefusal.{CardRefusal}
use Rattle.card.specs.Refusals.{at_byte}
use Rattle.sheet.specs.declared.fault.Refusal.{Refusal}
use Rattle.sheet.specs.declared.mode.Mode.{Mode}
use Rattle.sheet.specs.Calls.{enter_refusal, over_share, set_refusal}
use Rattle.sheet.specs.Limits.{Within, allowed}
use Rattle.sheet.specs.Model.{Model, Row, new_model}
use Rattle.sheet.specs.Sound.{RowWithin, ShareWithin, Sound}

-- shares and rows within their limits
share_small : (o : Option ℕ) → ShareWithin o → over_share o ≡ false
share_small None h = refl
share_small (Some x) h = let l = h x refl in grind (arith, nat_tests)

share_of : (o : Option ℕ) → ShareWithin o → share (share_number o) ≡ o
share_of None h = refl
share_of (Some x) h = let l = h x refl in let k : eqb x 65535 ≡ false = grind (arith, nat_tests) in rw k

row_taken : (m : Model) (p r : ℕ) (s c : Option ℕ) → p ≤ 7 → 1 ≤ r → r ≤ 100000000 → over_share s ≡ false → over_share c ≡ false → length m.rows < 64
    → enter_refusal m p r s c ≡ None
row_taken m p r s c a b d e f g = grind (arith, nat_tests)

abbrev AllWithin : List Row → Type 0
AllWithin rs = (k : ℕ) (r : Row) → slice_get rs k ≡ Some r → RowWithin r

-- the rows
back_rows : (rs done : List Row) (at : ℕ) (o : Option Mode) (fs : List (Option ℕ)) (tail : List ℕ) → length done + length rs ≤ 64 → AllWithin rs
    → reads (bytes (row_entries rs) ++ tail) 0 at (record { mode = o; fields = fs; rows = done })
    ≡ reads tail 0 (at + length (bytes (row_entries rs))) (record { mode = o; fields = fs; rows = done ++ rs })
unfolding in_order
back_rows [] done at o fs tail h g = rw (append-nil done, add-zero at)
back_rows (r ∷ rs) done at o fs tail h g =
    let n : Model = record { mode = o; fields = fs; rows = done } in
    let i = g 0 r refl in
    let s = share_of r.safe i.safe_within in
    let c = share_of r.coverage i.coverage_within in
    let q : entry_refusal n (row_entry r) ≡ None =
    rw (s, c) (row_taken n r.place r.rate r.safe r.coverage i.place_within i.rate_least i.rate_most
    (share_small r.safe i.safe_within) (share_small r.coverage i.coverage_within) (omega arith)) in
    let w : at + 12 + length (bytes (row_entries rs)) ≡ at + length (bytes (row_entries (r ∷ rs))) = omega arith in
    reads_entry (row_entry r) n at (bytes (row_entries rs) ++ tail) refl q
    ∙ rw (s, c, ← w)
    (back_rows rs (done ++ (r ∷ [])) (at + 12) o fs tail (rw length-append (omega arith)) (λ k x e. g (suc k) x e)
    ∙ rw (append_assoc done (r ∷ []) rs))

-- the settings
before_from : (q g p f : ℕ) → 8 * q + g < 8 * p + f → 1 ≤ g → f ≤ 8 → before q g p f ≡ true
before_from q g p f h a b = grind (arith, nat_tests)

blank_before : (k i p f : ℕ) → all_before i (replicate k None) p f ≡ true
blank_before zero i p f = refl
blank_before (suc k) i p f = blank_before k (suc i) p f

all_before_from : (pre : List (Option ℕ)) (i k p f : ℕ) → i + length pre < 8 * p + f → f ≤ 8 → all_before i (pre ++ replicate k None) p f ≡ true
all_before_from [] i k p f h b = blank_before k i p f
all_before_from (None ∷ pre) i k p f h b = all_before_from pre (suc i) k p f (omega arith) b
all_before_from (Some v ∷ pre) i k p f h b =
    and_from _ _ (before_from (place_at i) (field_at i) p f (omega arith) (omega arith) b) (all_before_from pre (suc i) k p f (omega arith) b)

setting_taken : (p f v : ℕ) → p ≤ 7 → 1 ≤ f → f ≤ 8 → allowed f v ≡ true → set_refusal p f v ≡ None
setting_taken p f v a b c q = grind (arith, nat_tests)

-- fields within their limits, the first of which stands at index i
abbrev WithinFrom : ℕ → List (Option ℕ) → Type 0
WithinFrom i fs = (j v : ℕ) → get_or fs j None ≡ Some v → allowed (field_at (i + j)) v ≡ true

within_next : (i : ℕ) (x : Option ℕ) (fs : List (Option ℕ)) → WithinFrom i (x ∷ fs) → WithinFrom (suc i) fs
within_next i x fs h j v e = let n : i + suc j ≡ suc i + j = omega arith in rw n at (h (suc j) v e)

back_settings : (fs pre : List (Option ℕ)) (i at : ℕ) (o : Option Mode) (rs : List Row) (tail : List ℕ) → length pre ≡ i → i + length fs ≡ 64
    → WithinFrom i fs → length rs ≤ 64 → AllWithin rs
    → reads (bytes (setting_entries i fs ++ row_entries rs) ++ tail) 0 at (record { mode = o; fields = pre ++ replicate (length fs) None; rows = [] })
    ≡ reads tail 0 (at + length (bytes (setting_entries i fs ++ row_entries rs))) (record { mode = o; fields = pre ++ fs; rows = rs })
unfolding in_order
back_settings [] pre i at o rs tail l a g k r = back_rows rs [] at o (pre ++ []) tail (omega arith) r
back_settings (None ∷ fs) pre i at o rs tail l a g k r =
    let e = append_assoc pre (None ∷ []) (replicate (length fs) None) in
    let d = append_assoc pre (None ∷ []) fs in
    rw (← e, ← d) (back_settings fs (pre ++ (None ∷ [])) (suc i) at o rs tail (rw length-append (omega arith)) (omega arith) (within_next i None fs g) k r)
back_settings (Some v ∷ fs) pre i at o rs tail l a g k r =
    let n : Model = record { mode = o; fields = pre ++ replicate (suc (length fs)) None; rows = [] } in
    let j : 8 * place_at i + (field_at i - 1) ≡ length pre = omega arith in
    let b = all_before_from pre 0 (suc (length fs)) (place_at i) (field_at i) (omega arith) (omega arith) in
    let y : allowed (field_at i) v ≡ true = rw (add-zero i) at (g 0 v refl) in
    let q = setting_taken (place_at i) (field_at i) v (omega arith) (omega arith) (omega arith) y in
    let e = append_assoc pre (Some v ∷ []) (replicate (length fs) None) in
    let d = append_assoc pre (Some v ∷ []) fs in
    let w : at + 9 + length (bytes (setting_entries (suc i) fs ++ row_entries rs)) ≡ at + length (bytes (setting_entries i (Some v ∷ fs) ++ row_entries rs)) = omega arith in
    reads_entry (Entry.Setting (place_at i) (field_at i) v) n at (bytes (setting_entries (suc i) fs ++ row_entries rs) ++ tail) b q
    ∙ rw (j, set_at pre None (replicate (length fs) None) (Some v) (length pre) refl, ← e, ← d, ← w)
    (back_settings fs (pre ++ (Some v ∷ [])) (suc i) (at + 9) o rs tail (rw length-append (omega arith)) (omega arith) (within_next i (Some v) fs g) k r)

-- the mode, then the rest
abbrev On : Option Mode → List (Option ℕ) → List Row → List ℕ → Type 0
On o fs rs tail =
    reads (card (record { mode = o; fields = fs; rows = rs }) ++ tail) 0 0 new_model
    ≡ reads tail 0 (length (card (record { mode = o; fields = fs; rows = rs }))) (record { mode = o; fields = fs; rows = rs })

within_all : (fs : List (Option ℕ)) → Within fs → WithinFrom 0 fs
within_all fs h j v e = rw (zero-add j) (h j v e)

module _ (fs : List (Option ℕ)) (rs : List Row) (tail : List ℕ) (l : length fs ≡ 64) (g : WithinFrom 0 fs) (k : length rs ≤ 64) (r : AllWithin rs) where
  after_mode : (c : ℕ) (o : Option Mode) → length (bytes (Entry.Mode c ∷ [])) ≡ 4
      → reads (bytes (setting_entries 0 fs ++ row_entries rs) ++ tail) 0 4 (record { mode = o; fields = replicate 64 None; rows = [] })
      ≡ reads tail 0 (4 + length (bytes (setting_entries 0 fs ++ row_entries rs))) (record { mode = o; fields = fs; rows = rs })
  after_mode c o z = rw l at (back_settings fs [] 0 4 o rs tail refl (omega arith) g k r)

  back_mode : (o : Option Mode) → On o fs rs tail
  unfolding in_order card
  back_mode None = rw (l, zero-add (length (bytes (setting_entries 0 fs ++ row_entries rs)))) at (back_settings fs [] 0 0 None rs tail refl (omega arith) g k r)
  back_mode (Some Mode.Low) =
      let w : 4 + length (bytes (setting_entries 0 fs ++ row_entries rs)) ≡ length (bytes (Entry.Mode 76 ∷ (setting_entries 0 fs ++ row_entries rs))) = omega arith in
      reads_entry (Entry.Mode 76) new_model 0 (bytes (setting_entries 0 fs ++ row_entries rs) ++ tail) refl refl ∙ (rw w at (after_mode 76 (Some Mode.Low) refl))
  back_mode (Some Mode.High) =
      let w : 4 + length (bytes (setting_entries 0 fs ++ row_entries rs)) ≡ length (bytes (Entry.Mode 72 ∷ (setting_entries 0 fs ++ row_entries rs))) = omega arith in
      reads_entry (Entry.Mode 72) new_model 0 (bytes (setting_entries 0 fs ++ row_entries rs) ++ tail) refl refl ∙ (rw w at (after_mode 72 (Some Mode.High) refl))

-- a card with more behind it: the sheet, and on from there
pub on : (m : Model) → Sound m → (tail : List ℕ) → reads (card m ++ tail) 0 0 new_model ≡ reads tail 0 (length (card m)) m
on m s tail = back_mode m.fields m.rows tail s.all_fields_stand (within_all m.fields s.settings_within) s.few_rows s.rows_within m.mode

pub back : (m : Model) → Sound m → read (card m) ≡ Ok m
unfolding reads
back m s = ap read (sym (append-nil (card m))) ∙ on m s []

-- a field that is refused ends the reading
pub reads_stop : (bs : List ℕ) (at : ℕ) (m : Model) (r : Refusal) → 0 < length bs → step m bs ≡ Err r → reads bs 0 at m ≡ Err (at_byte at r)
unfolding reads
reads_stop [] at m r h q = absurd (omega arith)
reads_stop (b ∷ bs) at m r h q = ap (λ o. go_on at o (λ x. reads bs (width x - 1) (at + width x) (entry_made m x))) q

pub refuses : (bs : List ℕ) (r : CardRefusal) → RefusedAt bs r → read bs ≡ Err r
refuses bs r h =
    ap read h.begins ∙ on h.so_far h.is_sound h.rest ∙ reads_stop h.rest _ h.so_far h.why h.more h.refused_here
    ∙ ap (λ x. Err x) (sym h.with_byte)

pub one_sheet : OneSheet
one_sheet m n s t e = let q = sym (back m s) ∙ ap read e ∙ back n t in cc
