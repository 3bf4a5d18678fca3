use Rattle.std.proofs.Common.{◌≡◌, ◌++◌, drop, map}
use Rattle.card.specs.Entries.{bytes, card, row_entries}
use Rattle.sheet.specs.Holds.{row_of}
use Rattle.card_writer.proofs.filling.fill.Given as goal

abbrev pub invariant-loop-row : goal.invariant-loop-row
invariant-loop-row l = l.buffer.items ++ bytes (row_entries (map row_of (drop l.row-index l.rows))) ≡ card l.sheet
