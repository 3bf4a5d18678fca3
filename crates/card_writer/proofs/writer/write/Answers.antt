use Rattle.card_writer.proofs.Longest.{longest_reached}
use Rattle.card_writer.proofs.Writes.{writes}
use Rattle.card_writer.proofs.writer.write.Goals as goal

pub returns : goal.returns
returns c =
    let h = c.put_card.ensures in
    let s = c.args.sheet.now in
    record {
      answer = h.answer;
      after = h.after;
      writes = writes s h.sound c.args.area.now _ _ h.answer h.after;
      longest = longest_reached;
      sound = h.sound;
    }
