use Rattle.std.proofs.Common.{List, ℕ, ◌<◌, length, ◌∙◌, rules, tests}
use Rattle.std.proofs.lemmas.Iterator.Adapters.{YieldsList-from_bytes}
use Rattle.std.proofs.lemmas.Iterator.Search.{all_from_yields_List}
use Rattle.std.specs.Char.{is_ascii_digit}
use Rattle.line.proofs.Numerals.{digits_all}
use Rattle.line.proofs.values.is_numeral.Goals as goal

pub returns-then-not-is_empty : goal.returns-then-not-is_empty
returns-then-not-is_empty c =
    let w : List ℕ = c.args.word.now in
    let some : 0 < length w = search (rules, tests) in
    all_from_yields_List is_ascii_digit _ _ c.all.result c.all.ensures.ran (YieldsList-from_bytes w cc) (λ x b q k. search (rules, tests)) ∙ digits_all w some
