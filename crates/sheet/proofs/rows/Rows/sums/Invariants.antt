use Rattle.std.proofs.Common.{map, drop}
use Rattle.sheet.specs.Holds.{row_of}
use Rattle.sheet.proofs.Summed.{Summing}
use Rattle.sheet.proofs.rows.Rows.sums.Given as goal

abbrev pub invariant-loop-i : goal.invariant-loop-i
invariant-loop-i l = Summing l.place.number (map row_of l.row-items) l.i (map row_of (drop l.i l.row-items)) l.sums
