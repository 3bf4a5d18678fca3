use Rattle.std.proofs.Common.{ℕ, List, not, true, rules, tests, arith}
use Rattle.std.proofs.lemmas.Bool.Decides.{nat_tests}
use Rattle.line.specs.Words.{blank}
use Rattle.line.proofs.Found.{found}
use Rattle.line.proofs.Splits.{words_empty}
use Rattle.line.proofs.words.Words.is_empty.Goals as goal

pub returns : goal.returns
returns c =
    let text : List ℕ = c.self.inside.text.now in
    let p = found (λ b. not (blank b)) true (λ b l. grind (arith, nat_tests)) text c.find.result c.find.ensures.cases (λ a x q k. search (rules, tests)) in
    rw (← c.self.view_is) (words_empty text c.is_none.result c.find.result p c.is_none.ensures)
