-- The laws of a write, from what is answered and left.
use Rattle.std.proofs.Common.{◌≡◌, ℕ, ◌≤◌, Bool, true, false, cond, leb, List, ◌++◌, length, drop, Ok, Err, Result, sym, refl, ap, ◌∙◌, subst, ⊎_elim, arith, length-append, length-drop}
use Rattle.std.proofs.lemmas.List.{drop_at, take_at}
use Rattle.std.proofs.lemmas.Bool.{cases_Bool, leb-true}
use Rattle.card.specs.Entries.{card}
use Rattle.card.specs.Reading.{read}
use Rattle.card.specs.Refusals.{card_refusal}
use Rattle.card.proofs.Back.{back, one_sheet}
use Rattle.sheet.specs.declared.fault.Refusal.{Refusal}
use Rattle.sheet.specs.Model.{Model}
use Rattle.sheet.specs.Sound.{Sound}
use Rattle.card_writer.specs.Laws.{Writes}
use Rattle.card_writer.specs.Writing.{write_answer, written}
use Rattle.card_writer.proofs.Growing.{card_short}

abbrev By : Bool → Model → List ℕ → Type 0
By b m area =
    Writes m area (cond b (card m ++ drop (length (card m)) area) area)
    (cond {A = Result ℕ Refusal} b (Ok (length (card m))) (Err (card_refusal 18)))

module _ (m : Model) (s : Sound m) (area : List ℕ) where
  no_other : (k : Model) → Sound k → card k ≡ card m → k ≡ m
  no_other k t e = one_sheet k m t s e

  fits : length (card m) ≤ length area → By true m area
  fits l =
      let c = card m in
      record {
        refused_unchanged = tt;
        reads_back = ap read (take_at c (drop (length c) area) (length c) refl) ∙ back m s;
        rest_kept = drop_at c (drop (length c) area) (length c) refl;
        same_length =
            length-append c (drop (length c) area) ∙ (let n = length-drop (length c) area in omega arith);
        one_sheet = no_other;
        short_enough = card_short m s;
      }

  not_fits : By false m area
  not_fits =
      record { refused_unchanged = refl; reads_back = tt; rest_kept = tt; same_length = refl; one_sheet = no_other; short_enough = card_short m s }

  decided : Writes m area (written m area) (write_answer m area)
  decided =
      let b = leb (length (card m)) (length area) in
      let P : Bool → Type 0 = λ x. By x m area in
      ⊎_elim (λ (e : b ≡ true). subst P (sym e) (fits (leb-true _ _ e))) (λ (e : b ≡ false). subst P (sym e) not_fits) (cases_Bool b)

  pub writes : (after : List ℕ) (a : Result ℕ Refusal) → a ≡ write_answer m area → after ≡ written m area → Writes m area after a
  writes after a e q =
      let P : List ℕ → Type 0 = λ x. Writes m area x a in
      let Q : Result ℕ Refusal → Type 0 = λ x. Writes m area (written m area) x in
      subst P (sym q) (subst Q (sym e) decided)
