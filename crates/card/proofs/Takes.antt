-- What a field does as a call that is not refused.
use Rattle.std.proofs.Common.{◌≡◌, Some, None, Ok, Option, refl, ap, ◌∙◌, arith}
use Rattle.std.specs.Result.{result_map_both}
use Rattle.card.specs.declared.entry.Entry.{Entry}
use Rattle.card.specs.Entries.{share}
use Rattle.card.specs.Reading.{entry_answer, entry_made}
use Rattle.sheet.specs.declared.fault.Refusal.{Refusal}
use Rattle.card.proofs.Limits.{mode_refusal}
use Rattle.sheet.specs.Calls.{enter_refusal, mode_put, set_refusal}
use Rattle.sheet.specs.Model.{Model, with_field, with_row}
use Rattle.sheet.specs.Refusals.{after_call, answered}

-- the refusal of a field, and the sheet that it makes where there is none
abbrev pub entry_refusal : Model → Entry → Option Refusal
entry_refusal m (Entry.Mode l) = mode_refusal l
entry_refusal m (Entry.Setting p f v) = set_refusal p f v
entry_refusal m (Entry.Row p rate s dc) = enter_refusal m p rate (share s) (share dc)

abbrev pub entry_put : Model → Entry → Model
entry_put m (Entry.Mode l) = mode_put m l
entry_put m (Entry.Setting p f v) = with_field m p f (Some v)
entry_put m (Entry.Row p rate s dc) = with_row m (record { place = p; rate = rate; safe = share s; coverage = share dc })

map_answered : {X Y : Type 0} (f : X → Y) (o : Option Refusal) (x : X) → result_map_both f (λ r. r) (answered o x) ≡ answered o (f x)
map_answered f None x = refl
map_answered f (Some r) x = refl

pub answer_is : (m : Model) (e : Entry) → entry_answer m e ≡ answered (entry_refusal m e) tt
answer_is m (Entry.Mode l) = refl
answer_is m (Entry.Setting p f v) = refl
answer_is m (Entry.Row p rate s dc) = map_answered _ (enter_refusal m p rate (share s) (share dc)) _

-- an answer that tells no refusal
pub no_refusal : (m : Model) (e : Entry) → Ok tt ≡ entry_answer m e → entry_refusal m e ≡ None
no_refusal m e q = let a = q ∙ answer_is m e in grind arith

pub made_is : (m : Model) (e : Entry) → entry_refusal m e ≡ None → entry_made m e ≡ entry_put m e
made_is m (Entry.Mode l) q = refl
made_is m (Entry.Setting p f v) q = ap (λ o. after_call o m (with_field m p f (Some v))) q
made_is m (Entry.Row p rate s dc) q =
    ap (λ o. after_call o m (with_row m (record { place = p; rate = rate; safe = share s; coverage = share dc }))) q
