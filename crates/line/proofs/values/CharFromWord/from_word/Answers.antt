use Rattle.std.proofs.Common.{rules}
use Rattle.std.proofs.lemmas.Result.{MatchResult-weaker}
use Rattle.line.proofs.Characters.{letter_parsed}
use Rattle.line.proofs.values.CharFromWord.from_word.Goals as goal

pub returns : goal.returns
returns c =
    letter_parsed c.args.word.now c.parse.result c.map_err.result c.utf8.word c.parse.ensures.value (MatchResult-weaker c.parse.result c.map_err.ensures.cases (λ x p. p) (λ y p. search rules))
