-- The bytes that a word writes, or why they cannot be kept.
use Rattle.std.specs.Prelude.{ℕ, ◌*◌, cond, List, [], length, Some, None, Ok, Err, codes, Option, Result, ◌==◌, nat_lt}
use Rattle.std.specs.Str.{bytes_eq}
use Rattle.hex_bytes.specs.declared.reading.NotHex.{NotHex}
use Rattle.hex_bytes.specs.declared.reading.NotHex.TheVariants.{NotPairs, TooLong}
use Rattle.hex_bytes.specs.Digits.{hex_of}
use Rattle.hex_bytes.specs.Capacity.{capacity}

-- the most characters of a word: two for each byte that can be kept
abbrev pub longest : ℕ
longest = 2 * capacity

-- the bytes that a word writes: `-` writes none, and the empty word is no writing of bytes
abbrev pub bytes_of : List ℕ → Option (List ℕ)
bytes_of w = cond (length w == 0) None (cond (bytes_eq w (codes "-")) (Some []) (hex_of w))

-- the bytes are kept, where the word writes some
abbrev pub kept_or : Option (List ℕ) → Result (List ℕ) NotHex
kept_or None = Err NotPairs
kept_or (Some bs) = Ok bs

-- what a word is read as: one that is too long is told so, whatever its characters
abbrev pub from_hex_of : List ℕ → Result (List ℕ) NotHex
from_hex_of w = cond (nat_lt longest (length w)) (Err TooLong) (kept_or (bytes_of w))

-- the reason in words
abbrev pub reason : NotHex → List ℕ
reason NotPairs = codes "neither `-` nor pairs of hexadecimal digits"
reason TooLong = codes "more than two digits for each of 2,048 bytes"
