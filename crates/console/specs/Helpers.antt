-- This serves the contract of a private function only: no public contract cites it.
use Rattle.std.specs.Prelude.{Ok, Err, Result}
use Rattle.console.specs.declared.answers.Answer.{Answer}
use Rattle.sheet.specs.declared.fault.Fault.{Fault}

-- the answer of a call that may be refused
abbrev pub told : Result Answer Fault → Answer
told (Ok a) = a
told (Err f) = Answer.Refused f
