-- How the reading of bytes goes on: from a byte further on, after a field that is taken, and at the end.
use Rattle.std.proofs.Common.{◌≡◌, ℕ, zero, suc, ◌+◌, ◌-◌, ◌<◌, List, [], ◌∷◌, length, drop, Ok, refl, ap, ◌∙◌, arith}
use Rattle.card.specs.declared.entry.Entry.{Entry}
use Rattle.card.specs.Entries.{card, width}
use Rattle.card.specs.Reading.{entry_made, go_on, reads, step}
use Rattle.sheet.specs.Model.{Model, new_model}

pub reads_skip : (bs : List ℕ) (k at : ℕ) (m : Model) → reads bs k at m ≡ reads (drop k bs) 0 at m
unfolding reads
reads_skip [] zero at m = refl
reads_skip [] (suc k) at m = refl
reads_skip (b ∷ bs) zero at m = refl
reads_skip (b ∷ bs) (suc k) at m = reads_skip bs k at m

pub width_less : (e : Entry) (b : ℕ) (bs : List ℕ) → drop (width e - 1) bs ≡ drop (width e) (b ∷ bs)
width_less (Entry.Mode l) b bs = refl
width_less (Entry.Setting p f v) b bs = refl
width_less (Entry.Row p r s c) b bs = refl

-- one field, and the rest
pub reads_on : (bs : List ℕ) (at : ℕ) (m : Model) (e : Entry) → 0 < length bs → step m bs ≡ Ok e
    → reads bs 0 at m ≡ reads (drop (width e) bs) 0 (at + width e) (entry_made m e)
unfolding reads
reads_on [] at m e h q = absurd (omega arith)
reads_on (b ∷ bs) at m e h q =
    ap (λ r. go_on at r (λ x. reads bs (width x - 1) (at + width x) (entry_made m x))) q
    ∙ reads_skip bs (width e - 1) (at + width e) (entry_made m e)
    ∙ ap (λ l. reads l 0 (at + width e) (entry_made m e)) (width_less e b bs)

pub reads_end : (bs : List ℕ) (at : ℕ) (m : Model) → length bs ≡ 0 → reads bs 0 at m ≡ Ok m
unfolding reads
reads_end [] at m h = refl
reads_end (b ∷ bs) at m h = absurd (omega arith)

pub new_length : (m : Model) → m ≡ new_model → length (card m) ≡ 0
unfolding card
new_length m e = rw e refl
