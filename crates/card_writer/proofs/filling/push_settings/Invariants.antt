use Rattle.std.proofs.Common.{◌≡◌, ◌*◌, ◌≤◌, ◌++◌, drop}
use Rattle.card.specs.Entries.{bytes, mode_entries, setting_entries}
use Rattle.card_writer.proofs.filling.push_settings.Given as goal

abbrev pub invariant-loop-place : goal.invariant-loop-place
invariant-loop-place l =
    (goal.iterator-loop-place).can_next l.place-iterator
    × (goal.iterator-loop-place).is_finite l.place-iterator
    × (l.place-iterator.iter.end ≡ 8)
    × (l.place-iterator.iter.start ≤ 8)
    × (l.card.items ++ bytes (setting_entries (8 * l.place-iterator.iter.start) (drop (8 * l.place-iterator.iter.start) l.sheet.fields))
    ≡ bytes (mode_entries l.sheet.mode) ++ bytes (setting_entries 0 l.sheet.fields))
