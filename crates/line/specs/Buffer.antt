-- How the line that a buffer holds grows, and what it is read as.
use Rattle.std.specs.Prelude.{ℕ, ◌+◌, cond, List, ◌++◌, length, Some, None, Err, Option, Result, nat_le}
use Rattle.line.specs.declared.calls.Call.{Call}
use Rattle.line.specs.declared.calls.NotCall.{NotCall}
use Rattle.line.specs.declared.calls.NotCall.TheVariants.{TooLong}
use Rattle.line.specs.Limits.{line_limit}
use Rattle.line.specs.Reading.{read_of}

-- the bytes with more after them, if a line may have so many
abbrev pub extended : Option (List ℕ) → List ℕ → Option (List ℕ)
extended None part = None
extended (Some bs) part = cond (nat_le (length bs + length part) line_limit) (Some (bs ++ part)) None

-- what a line is read as, which may be too long
abbrev pub read_held : Option (List ℕ) → Result (Option Call) NotCall
read_held None = Err TooLong
read_held (Some line) = read_of line
