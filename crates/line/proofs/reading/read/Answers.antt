use Rattle.std.proofs.Common.{◌≡◌, true, sym, ◌∙◌, rules}
use Rattle.std.proofs.lemmas.Str.{is_utf8-from_IsUtf8}
use Rattle.std.specs.Str.{is_utf8}
use Rattle.line.specs.Calls.{call_of}
use Rattle.line.specs.Words.{uncommented, words}
use Rattle.line.proofs.Printed.{call_back}
use Rattle.line.proofs.Spelled.{call_spells, spells_call}
use Rattle.line.proofs.reading.read.Goals as goal
use Rattle.line.proofs.reading.read.Goals.{After-call}

-- what was read is the call of the line, which is text
called : (c : After-call) → c.call.result ≡ call_of (words (uncommented c.args.line.now))
called c = let t : c.in_ok-text.text.now ≡ c.args.line.now = search rules in rw t at c.call.ensures

text : (c : After-call) → is_utf8 c.args.line.now ≡ true
text c = is_utf8-from_IsUtf8 c.args.line.now (search rules)

pub returns-clause-accepted : goal.returns-clause-accepted
returns-clause-accepted c = λ k h. (text c, call_spells (words (uncommented c.args.line.now)) k (sym (called c) ∙ h))

pub returns-clause-spelled : goal.returns-clause-spelled
returns-clause-spelled c = λ k _ h. called c ∙ spells_call (words (uncommented c.args.line.now)) k h

pub returns-clause-back : goal.returns-clause-back
returns-clause-back c = λ k h p. called c ∙ rw p (call_back k h)
