use Rattle.std.proofs.Common.{◌≡◌, ℕ, ◌*◌, ◌+◌, ◌++◌, length}
use Rattle.std.specs.Slice.Iter.{iter_rest}
use Rattle.card.specs.Entries.{bytes, setting_entries}
use Rattle.card_writer.proofs.filling.push_place.Given as goal

abbrev pub invariant-loop-field : goal.invariant-loop-field
invariant-loop-field l =
    (goal.iterator-loop-field).can_next l.field-iterator
    × (goal.iterator-loop-field).is_finite l.field-iterator
    × ((k : ℕ) × (l.field-iterator.a.start ≡ k + 1) × (k + length (iter_rest l.field-iterator.b) ≡ 8)
    × (l.card.items ++ bytes (setting_entries (8 * l.place + k) (iter_rest l.field-iterator.b))
    ≡ l.initial.card.items ++ bytes (setting_entries (8 * l.place) l.values)))
