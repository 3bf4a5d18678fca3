-- What a load answers, the sheet that it leaves, and its laws.
use Rattle.std.proofs.Common.{◌≡◌, ℕ, List, Ok, Err, sym, refl, ap, ◌∙◌}
use Rattle.std.specs.Result.{result_unwrap_or}
use Rattle.card.specs.declared.fault.CardRefusal.{CardRefusal}
use Rattle.card.specs.declared.entry.Entry.{Entry}
use Rattle.card.specs.Entries.{card, share}
use Rattle.card.specs.Laws.{Loads, RefusedAt}
use Rattle.card.specs.Loading.{load_answer, loaded}
use Rattle.card.specs.Reading.{done, entry_made, read}
use Rattle.card.proofs.Back.{back, refuses}
use Rattle.sheet.specs.Model.{Model}
use Rattle.sheet.specs.Sound.{Sound}
use Rattle.sheet.proofs.Sounds.{sound_entered, sound_mode, sound_set}

-- the bytes are the card of a sheet k, and that sheet is left
module _ (bs : List ℕ) (k : Model) (s : Sound k) (e : card k ≡ bs) where
  is_read : Ok k ≡ read bs
  is_read = sym (back k s) ∙ ap read e

  pub accepted_answer : Ok tt ≡ load_answer bs
  accepted_answer = ap done is_read

  pub accepted_after : (m n : Model) → n ≡ k → n ≡ loaded m bs
  accepted_after m n q = q ∙ ap (λ r. result_unwrap_or r m) is_read

  pub accepted : (m n : Model) → n ≡ k → Loads bs m n (Ok tt)
  accepted m n q =
      let i = is_read in
      record {
        refused_unchanged = tt;
        its_card = ap card q ∙ e;
        given_back = λ o t d. let p = ap read d ∙ back o t in (refl, cc);
        refused_there = tt;
        no_other_refusal = λ x h. let p = refuses bs x h in cc;
      }

-- the bytes are refused
module _ (bs : List ℕ) (r : CardRefusal) (h : RefusedAt bs r) (m : Model) where
  pub refused_answer : Err r ≡ load_answer bs
  refused_answer = ap done (sym (refuses bs r h))

  pub refused_after : m ≡ loaded m bs
  refused_after = ap (λ r. result_unwrap_or r m) (sym (refuses bs r h))

  pub refused : Loads bs m m (Err r)
  refused =
      let q = refuses bs r h in
      record {
        refused_unchanged = refl;
        its_card = tt;
        given_back = λ o t d. let p = ap read d ∙ back o t in (cc, cc);
        refused_there = h;
        no_other_refusal = λ x k. let p = refuses bs x k in cc;
      }

-- what a field makes of a sound sheet is sound
pub made_sound : (m : Model) (e : Entry) → Sound m → Sound (entry_made m e)
made_sound m (Entry.Mode l) s = sound_mode m l s
made_sound m (Entry.Setting p f v) s = sound_set m p f v s
made_sound m (Entry.Row p rate a b) s = sound_entered m p rate (share a) (share b) s
