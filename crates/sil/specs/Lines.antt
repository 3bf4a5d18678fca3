-- Where a line ends.
use Rattle.std.specs.Prelude.{ℕ, ◌<◌, List, ◌≢◌, slice_index}

-- no line ends within the first n bytes
abbrev pub Unended : List ℕ → ℕ → Type 0
Unended bytes n = (k : ℕ) → k < n → slice_index bytes k ≢ 10
