-- What is written is the one card of the sheet.
use Rattle.std.specs.Prelude.{◌≡◌, ℕ, ◌≤◌, List, length, take, drop, IfOk, IfErr, Ok, Result}
use Rattle.card.specs.Entries.{card, longest_card}
use Rattle.card.specs.Reading.{read}
use Rattle.sheet.specs.declared.fault.Refusal.{Refusal}
use Rattle.sheet.specs.Model.{Model}
use Rattle.sheet.specs.Sound.{Sound}

-- what a write of the sheet m answers, and the area before and after it
pub record Writes (m : Model) (before after : List ℕ) (answer : Result ℕ Refusal) : Type 0 where
  -- a refused write changes nothing
  pub refused_unchanged : IfErr answer (λ r. after ≡ before)
  -- the bytes written are read as this sheet
  pub reads_back : IfOk answer (λ n. read (take n after) ≡ Ok m)
  -- the rest of the area is kept
  pub rest_kept : IfOk answer (λ n. drop n after ≡ drop n before)
  pub same_length : length after ≡ length before
  -- no other sheet has this card
  pub one_sheet : (k : Model) → Sound k → card k ≡ card m → k ≡ m
  pub short_enough : length (card m) ≤ longest_card

-- some sheet has a card of the greatest length
abbrev pub LongestReached : Type 0
LongestReached = (m : Model) × Sound m × (length (card m) ≡ longest_card)
