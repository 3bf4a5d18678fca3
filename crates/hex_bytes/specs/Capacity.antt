-- How many bytes are kept, how they stand in place, and which slices can be kept.
use Rattle.std.specs.Prelude.{◌≡◌, ℕ, ◌-◌, ◌≤◌, cond, List, ◌++◌, length, take, replicate, Some, None, Option, nat_le}

-- the most bytes that are kept
abbrev pub capacity : ℕ
capacity = 2048

-- the bytes, and zeros after them up to the capacity
abbrev pub padded : List ℕ → List ℕ
padded bs = bs ++ replicate (capacity - length bs) 0

-- so many bytes stand at the front of the array: they are not more than the capacity, and zeros are all that stands after them
pub record IsKept (array : List ℕ) (n : ℕ) : Type 0 where
  pub few : n ≤ capacity
  pub count : length (take n array) ≡ n
  pub is : array ≡ padded (take n array)

-- the bytes of a slice, or none where they are too many
abbrev pub slice_kept : List ℕ → Option (List ℕ)
slice_kept bs = cond (nat_le (length bs) capacity) (Some bs) None
