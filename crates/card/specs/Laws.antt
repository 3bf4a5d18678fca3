-- One card for each sheet.
use Rattle.std.specs.Prelude.{◌≡◌, ℕ, ◌<◌, true, List, ◌++◌, length, IfOk, IfErr, Ok, Err, Result}
use Rattle.std.specs.List.{AllByRecursion}
use Rattle.card.specs.declared.entry.Entry.{Entry}
use Rattle.card.specs.declared.fault.CardRefusal.{CardRefusal}
use Rattle.card.specs.Entries.{card, field_bytes}
use Rattle.card.specs.Reading.{entry_answer, in_order, step}
use Rattle.card.specs.Refusals.{at_byte}
use Rattle.sheet.specs.declared.fault.Refusal.{Refusal}
use Rattle.sheet.specs.Model.{Model}
use Rattle.sheet.specs.Sound.{Sound}

abbrev pub AllBytes : List ℕ → Type 0
AllBytes bs = AllByRecursion (λ b. b < 256) bs

-- the bytes begin with this field, which is in order on the sheet m, and its call is not refused there
pub record Taken (m : Model) (bs : List ℕ) (e : Entry) : Type 0 where
  pub rest : List ℕ
  pub begins : bs ≡ field_bytes e ++ rest
  pub ordered : in_order m e ≡ true
  pub call_answered : entry_answer m e ≡ Ok tt

-- a field is read from bytes exactly where it is to be taken
abbrev pub TakesFields : Type 0
TakesFields = (m : Model) (bs : List ℕ) (e : Entry) → (AllBytes bs → step m bs ≡ Ok e → Taken m bs e) × (Taken m bs e → step m bs ≡ Ok e)

-- bytes that are refused begin with the card of the sheet that was read so far; at the byte where that card ends a field starts that
-- this sheet does not take, and the refusal is told with that byte
pub record RefusedAt (bs : List ℕ) (r : CardRefusal) : Type 0 where
  pub so_far : Model
  pub is_sound : Sound so_far
  pub rest : List ℕ
  pub begins : bs ≡ card so_far ++ rest
  pub more : 0 < length rest
  pub why : Refusal
  pub refused_here : step so_far rest ≡ Err why
  pub with_byte : r ≡ at_byte (length (card so_far)) why

-- what a load of these bytes answers, and the sheet before and after it
pub record Loads (bs : List ℕ) (before after : Model) (answer : Result (Unit {0}) CardRefusal) : Type 0 where
  -- a refused card changes nothing
  pub refused_unchanged : IfErr answer (λ r. after ≡ before)
  -- a card that is accepted is the card of the sheet that it gives
  pub its_card : IfOk answer (λ x. card after ≡ bs)
  -- the card of any sheet gives that sheet back
  pub given_back : (m : Model) → Sound m → bs ≡ card m → (answer ≡ Ok tt) × (after ≡ m)
  -- a card is refused by its first field that is not taken, and by no other
  pub refused_there : IfErr answer (λ r. RefusedAt bs r)
  pub no_other_refusal : (r : CardRefusal) → RefusedAt bs r → answer ≡ Err r

-- two sheets with one card are one sheet
abbrev pub OneSheet : Type 0
OneSheet = (m n : Model) → Sound m → Sound n → card m ≡ card n → m ≡ n
