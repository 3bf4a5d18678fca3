-- The limits of what a sheet holds, and which values a setting may hold.
use Rattle.std.specs.Prelude.{◌≡◌, ℕ, ◌+◌, ◌%◌, Bool, true, cond, ◌&&◌, List, Some, None, Option, ◌==◌, nat_le, slice_index_or}

-- places are numbered from 0 to this one
abbrev pub last_place : ℕ
last_place = 7

-- the least rate of a row is 1, and this is the greatest, in thousandths of a FIT
abbrev pub greatest_rate : ℕ
greatest_rate = 100000000

-- a share in thousandths is at most the whole
abbrev pub greatest_share : ℕ
greatest_share = 1000

abbrev pub most_rows : ℕ
most_rows = 64

-- the least and the greatest value of each of the eight fields: 1 the proof test interval in hours, 2 and 3 MTTR and MRT in hours,
-- 4, 5 and 6 β, βD and K in ten-thousandths, 7 the component type by its letter's code, 65 or 66, and 8 the voting by its code
abbrev pub least : ℕ → ℕ
least f = cond (f == 1) 1 (cond (f == 7) 65 (cond (f == 8) 1 0))

abbrev pub greatest : ℕ → ℕ
greatest f = cond (f == 1) 200000 (cond (f == 7) 66 (cond (f == 8) 5 10000))

abbrev pub allowed : ℕ → ℕ → Bool
allowed f v = nat_le (least f) v && nat_le v (greatest f)

-- a value that field f may hold, or blank
abbrev pub allowed_or_blank : ℕ → Option ℕ → Bool
allowed_or_blank f None = true
allowed_or_blank f (Some v) = allowed f v

-- every field that is not blank holds a value that it may hold: field i % 8 + 1 of place i / 8 stands at index i
abbrev pub Within : List (Option ℕ) → Type 0
Within fs = (i v : ℕ) → slice_index_or fs i None ≡ Some v → allowed (i % 8 + 1) v ≡ true
