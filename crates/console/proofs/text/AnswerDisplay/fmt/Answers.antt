use Rattle.console.proofs.text.AnswerDisplay.fmt.Goals as goal

pub returns-in-NotCall-clause-writes : goal.returns-in-NotCall-clause-writes
returns-in-NotCall-clause-writes g c = rw c.in-NotCall.is c.write-in-NotCall.ensures.writes
