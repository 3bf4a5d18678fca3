-- What the sheet's refusals say of the numbers that they let through.
use Rattle.std.proofs.Common.{◌≡◌, ℕ, ◌<◌, ◌≤◌, true, false, length, None, Option, arith}
use Rattle.std.proofs.lemmas.Bool.Decides.{nat_tests}
use Rattle.sheet.specs.Calls.{enter_refusal, over_share, set_refusal}
use Rattle.sheet.specs.Limits.{allowed}
use Rattle.sheet.specs.Model.{Model}

pub record InSet (p f v : ℕ) : Type 0 where
  pub place : p ≤ 7
  pub least : 1 ≤ f
  pub most : f ≤ 8
  pub value : allowed f v ≡ true

pub in_set : (p f v : ℕ) → set_refusal p f v ≡ None → InSet p f v
in_set p f v q = grind (arith, nat_tests)

pub record InRow (m : Model) (p r : ℕ) (s c : Option ℕ) : Type 0 where
  pub place : p ≤ 7
  pub least : 1 ≤ r
  pub most : r ≤ 100000000
  pub safe : over_share s ≡ false
  pub coverage : over_share c ≡ false
  pub room : length m.rows < 64

pub in_row : (m : Model) (p r : ℕ) (s c : Option ℕ) → enter_refusal m p r s c ≡ None → InRow m p r s c
in_row m p r s c q = grind (arith, nat_tests)
