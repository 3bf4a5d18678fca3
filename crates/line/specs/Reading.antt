-- The call that the bytes of a line write, or why they write none.
use Rattle.std.specs.Prelude.{ℕ, cond, List, Err, Option, Result}
use Rattle.std.specs.Str.{is_utf8}
use Rattle.line.specs.declared.calls.Call.{Call}
use Rattle.line.specs.declared.calls.NotCall.{NotCall}
use Rattle.line.specs.declared.calls.NotCall.TheVariants.{NotText}
use Rattle.line.specs.Calls.{call_of}
use Rattle.line.specs.Words.{uncommented, words}

-- the call that the words before the comment make, where the whole line is text
abbrev pub read_of : List ℕ → Result (Option Call) NotCall
read_of line = cond (is_utf8 line) (call_of (words (uncommented line))) (Err NotText)
