use Rattle.std.proofs.Common.{ℕ, List, sym, ap, ◌∙◌}
use Rattle.hex_bytes.specs.Reading.{from_hex_of}
use Rattle.hex_bytes.specs.Kept.{held, held_or}
use Rattle.hex_bytes.proofs.Spelled.{read_writes, word_writes, writes_below, writes_read}
use Rattle.hex_bytes.proofs.bytes.Bytes.from_hex.Goals as goal

pub returns : goal.returns
returns c =
    let w : List ℕ = c.args.word.now in
    let e = c.read.ensures in
    record {
      value = e;
      accepted = λ b h. let k = read_writes w (held b) (sym e ∙ ap held_or h) in (k.0, k.1, writes_below w (held b) k.0);
      spelled = λ bs h l. e ∙ writes_read w bs h l;
      back = λ bs a l h. e ∙ (ap from_hex_of h ∙ writes_read _ bs (word_writes bs a) l);
    }
