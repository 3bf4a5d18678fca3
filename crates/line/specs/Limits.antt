-- How long a line may be, and how large a number on it.
use Rattle.std.specs.Prelude.{ℕ, ◌^◌}

-- the most bytes that a line may have
abbrev pub line_limit : ℕ
line_limit = 4096

-- a number is below this limit
abbrev pub number_limit : ℕ
number_limit = 2 ^ 32
