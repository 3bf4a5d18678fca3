use Rattle.std.proofs.Common.{◌≡◌, ◌++◌, length}
use Rattle.card.specs.Entries.{card}
use Rattle.card.specs.Helpers.{Last}
use Rattle.sheet.specs.Sound.{Sound}
use Rattle.card.proofs.reader.read_onto.Given as goal

abbrev pub invariant-loop-rest : goal.invariant-loop-rest
invariant-loop-rest l = Last l.last l.sheet × Sound l.sheet × (card l.sheet ++ l.rest ≡ l.bytes)

abbrev pub decreases-loop-rest : goal.decreases-loop-rest
decreases-loop-rest l = length l.rest
