use Rattle.std.proofs.Common.{◌≡◌, ◌+◌, ◌*◌, ◌≤◌, length}
use Rattle.std.specs.Slice.Iter.{chunks_rest, chunks_size}
use Rattle.hex_bytes.specs.Digits.{hex_of}
use Rattle.hex_bytes.specs.Kept.{held}
use Rattle.hex_bytes.specs.Reading.{longest}
use Rattle.hex_bytes.proofs.Pairing.{after}
use Rattle.hex_bytes.proofs.reading.pairs.Given as goal

abbrev pub invariant-loop-pair : goal.invariant-loop-pair
invariant-loop-pair l =
    (goal.iterator-loop-pair).can_next l.pair-iterator
    × (goal.iterator-loop-pair).is_finite l.pair-iterator
    × (chunks_size l.pair-iterator ≡ 2)
    × (2 * length (held l.bytes) + length (chunks_rest l.pair-iterator) ≤ longest)
    × (hex_of l.word ≡ after (held l.bytes) (hex_of (chunks_rest l.pair-iterator)))
