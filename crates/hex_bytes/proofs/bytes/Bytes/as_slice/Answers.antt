use Rattle.hex_bytes.proofs.Keeping.{same_bytes}
use Rattle.hex_bytes.proofs.bytes.Bytes.as_slice.Goals as goal

pub returns-clause-alone : goal.returns-clause-alone
returns-clause-alone c = λ b q. same_bytes b c.args.self.now q
