-- What a load answers, and the sheet that it leaves.
use Rattle.std.specs.Prelude.{ℕ, List, Result}
use Rattle.std.specs.Result.{result_map_both, result_unwrap_or}
use Rattle.card.specs.declared.fault.CardFault.{CardFault}
use Rattle.card.specs.declared.fault.CardRefusal.{CardRefusal}
use Rattle.card.specs.Reading.{done, read}
use Rattle.card.specs.Refusals.{fault_refusal}
use Rattle.sheet.specs.Model.{Model}

-- an answer of the unit, with the refusal in place of the fault
abbrev pub card_answer : {X : Type 0} → Result X CardFault → Result X CardRefusal
card_answer r = result_map_both (λ x. x) fault_refusal r

-- what is answered, by what was read
abbrev pub load_answer : List ℕ → Result (Unit {0}) CardRefusal
load_answer bs = done (read bs)

-- the sheet of the card, or the sheet as it was where the card is refused
abbrev pub loaded : Model → List ℕ → Model
loaded m bs = result_unwrap_or (read bs) m
