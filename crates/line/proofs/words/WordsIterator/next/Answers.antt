use Rattle.std.proofs.Common.{◌≡◌, ℕ, List, ◌∷◌, length, not, true, false, sym, ap, ◌∙◌, rules, tests, arith}
use Rattle.std.proofs.lemmas.Bool.Decides.{nat_tests}
use Rattle.std.proofs.lemmas.Grind.{common_steps}
use Rattle.std.specs.Option.{unwrap_or}
use Rattle.line.specs.Words.{blank, words}
use Rattle.line.proofs.Found.{found}
use Rattle.line.proofs.Splits.{place, words_none, words_some}
use Rattle.line.proofs.words.WordsIterator.next.Goals as goal

pub returns-in_err-start-clause-steps : goal.returns-in_err-start-clause-steps
returns-in_err-start-clause-steps c =
    let text : List ℕ = c.self.inside.text.now in
    let p = found (λ b. not (blank b)) true (λ b l. grind (arith, nat_tests)) text c.find.result c.find.ensures.cases (λ a x q k. search (rules, tests)) in
    let e = sym c.self.view_is ∙ words_none text (sym p ∙ c.in_err-start.was) in
    rw c.from_residual.ensures (e, e)

pub returns : goal.returns
returns c =
    let text : List ℕ = c.self.inside.text.now in
    let p = found (λ b. not (blank b)) true (λ b l. grind (arith, nat_tests)) text c.find.result c.find.ensures.cases (λ a x q k. search (rules, tests)) in
    let w = words_some text c.in_ok-start.start (sym p ∙ c.in_ok-start.was) in
    let rest : List ℕ = c.range_from-text.result.now in
    let q = found blank false (λ b l. grind (arith, nat_tests)) rest c.find-2.result c.find-2.ensures.cases (λ a x q k. search (rules, tests)) in
    let z = c.unwrap_or-end.ensures ∙ (ap (λ o. unwrap_or o (length rest)) q ∙ place blank rest) in
    let cut : c.args.self.now ≡ c.split_at.result.0.now ∷ words c.split_at.result.1.now = grind (arith, common_steps) in
    let n = ap length cut in
    record { steps = cut; goes = search rules }
