use Rattle.std.proofs.Common.{arith}
use Rattle.sheet.proofs.Halves.{rounded, rounded_small}
use Rattle.sheet.proofs.show.tenths.Goals as goal

pub overflow_cast-result : goal.overflow_cast-result
overflow_cast-result c =
    omega (arith, rounded_small c.args.part c.args.whole c.quotient-t.result (omega arith) c.quotient-t.ensures c.requires)

pub returns : goal.returns
returns c = (omega arith, rounded c.args.part c.args.whole c.quotient-t.result (omega arith) c.quotient-t.ensures)
