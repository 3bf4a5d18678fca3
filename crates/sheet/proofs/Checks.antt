-- The first check that fails, over two lists of checks.
use Rattle.std.proofs.Common.{◌≡◌, true, false, cond, List, [], ◌∷◌, ◌++◌, Some, None, sym, refl}
use Rattle.sheet.specs.declared.fault.Refusal.{Refusal}
use Rattle.sheet.specs.Refusals.{Check, first_failing}
use Rattle.std.proofs.lemmas.Option.{none-some}

-- where the first list refuses, both lists do
pub refuses_both : (cs ds : List Check) (r : Refusal) → first_failing cs ≡ Some r → first_failing (cs ++ ds) ≡ Some r
refuses_both [] ds r h = absurd (none-some _ h)
refuses_both (c ∷ cs) ds r h =
    elim c.fails as (λ b. cond b (Some c.tells) (first_failing cs) ≡ Some r → cond b (Some c.tells) (first_failing (cs ++ ds)) ≡ Some r)
    [ true ↦ λ e. e | false ↦ λ e. refuses_both cs ds r e ] h

-- where the first list refuses nothing, the second decides
pub passes_first : (cs ds : List Check) → first_failing cs ≡ None → first_failing (cs ++ ds) ≡ first_failing ds
passes_first [] ds h = refl
passes_first (c ∷ cs) ds h =
    elim c.fails as (λ b. cond b (Some c.tells) (first_failing cs) ≡ None → cond b (Some c.tells) (first_failing (cs ++ ds)) ≡ first_failing ds)
    [ true ↦ λ e. absurd (none-some _ (sym e)) | false ↦ λ e. passes_first cs ds e ] h
