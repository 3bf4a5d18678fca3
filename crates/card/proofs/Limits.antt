-- What the sheet's refusal of a letter says of those that it lets through.
use Rattle.std.proofs.Common.{◌≡◌, ℕ, not, [], ◌∷◌, is_some, Some, None, Option, arith}
use Rattle.std.proofs.lemmas.Bool.Decides.{nat_tests}
use Rattle.card.specs.Entries.{mode_letter}
use Rattle.sheet.specs.declared.mode.Mode.{Mode}
use Rattle.sheet.specs.Model.{letter_mode}
use Rattle.sheet.specs.declared.fault.Refusal.{Refusal}
use Rattle.sheet.specs.Refusals.{check, first_failing, refusal}

-- the refusal of a letter that is no mode's
abbrev pub mode_refusal : ℕ → Option Refusal
mode_refusal l = first_failing (check (not (is_some (letter_mode l))) (refusal 8 None None) ∷ [])

-- a letter that is let through is that of a mode
pub in_mode : (l : ℕ) → mode_refusal l ≡ None → (k : Mode) × (letter_mode l ≡ Some k) × (mode_letter k ≡ l)
in_mode l q = grind (arith, nat_tests)
