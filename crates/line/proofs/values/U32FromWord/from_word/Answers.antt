use Rattle.std.proofs.Common.{◌≡◌, true, rules}
use Rattle.std.proofs.lemmas.Result.{MatchResult-weaker}
use Rattle.line.specs.Values.{is_numeral}
use Rattle.line.proofs.Numerals.{not_numeral, number_parsed}
use Rattle.line.proofs.values.U32FromWord.from_word.Goals as goal

pub returns-then-not-is_numeral : goal.returns-then-not-is_numeral
returns-then-not-is_numeral c = search (rules, not_numeral)

pub returns : goal.returns
returns c =
    let n : is_numeral c.args.word.now ≡ true = search rules in
    number_parsed c.args.word.now c.parse.result c.map_err.result n c.parse.ensures.value.0 (MatchResult-weaker c.parse.result c.map_err.ensures.cases (λ x p. p) (λ y p. search rules))
