-- The bytes that a value holds.
use Rattle.std.specs.Prelude.{ℕ, List, Result, take}
use Rattle.std.specs.Result.{result_map_both}
use Rattle.hex_bytes.specs.declared.bytes.Bytes.{Bytes}

-- the bytes that a value holds
abbrev pub held : Bytes → List ℕ
held b = take b.length b.array

-- the bytes of a value that was made, or why none was
abbrev pub held_or : {E : Type 0} → Result Bytes E → Result (List ℕ) E
held_or r = result_map_both held (λ e. e) r
