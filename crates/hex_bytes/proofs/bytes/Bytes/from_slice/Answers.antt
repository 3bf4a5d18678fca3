use Rattle.std.proofs.Common.{arith}
use Rattle.hex_bytes.proofs.Keeping.{sliced}
use Rattle.hex_bytes.proofs.bytes.Bytes.from_slice.Goals as goal

pub invariant_of-result : goal.invariant_of-result
invariant_of-result c = record { kept = sliced c.args.bytes.now c.copy_from_slice.new.self c.copy_from_slice.ensures.after (omega arith) }
