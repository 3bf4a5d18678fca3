-- What a write answers, and the area that it leaves.
use Rattle.std.specs.Prelude.{ℕ, cond, List, ◌++◌, length, drop, Ok, Err, Result, nat_le}
use Rattle.card.specs.Entries.{card}
use Rattle.card.specs.Refusals.{card_refusal}
use Rattle.card_writer.specs.declared.area.AreaShort.{AreaShort}
use Rattle.sheet.specs.declared.fault.Refusal.{Refusal}
use Rattle.sheet.specs.Model.{Model}

-- an answer of the unit, with the refusal in place of the fault
abbrev pub area_answer : {X : Type 0} → Result X AreaShort → Result X Refusal
area_answer (Ok x) = Ok x
area_answer (Err f) = Err (card_refusal 18)

-- the length of the card, or 18 where the area is shorter
abbrev pub write_answer : Model → List ℕ → Result ℕ Refusal
write_answer m area = cond (nat_le (length (card m)) (length area)) (Ok (length (card m))) (Err (card_refusal 18))

-- the card and then the rest of the area, or the area as it was
abbrev pub written : Model → List ℕ → List ℕ
written m area = cond (nat_le (length (card m)) (length area)) (card m ++ drop (length (card m)) area) area
