use Rattle.std.proofs.Common.{rules}
use Rattle.std.proofs.lemmas.Result.{err_from_is_err_and}
use Rattle.card.proofs.Back.{one_sheet}
use Rattle.card.proofs.Loads.{accepted, accepted_after, accepted_answer, refused, refused_after, refused_answer}
use Rattle.card.proofs.Spelling.{takes_fields}
use Rattle.card.proofs.reader.CardReader.load.Goals as goal

pub returns-in_err-read_onto : goal.returns-in_err-read_onto
returns-in_err-read_onto c =
    let p = err_from_is_err_and c.from_residual.result c.from_residual.ensures.1 in
    let m = c.args.sheet.now in
    let h = c.in_err-read_onto.ensures.refused in
    rw (p.1, p.2)
    (record {
      answer = refused_answer _ _ h m;
      after = refused_after _ _ h m;
      loads = refused _ _ h m;
      sound = search rules;
      fields = takes_fields;
      one_sheet = one_sheet;
    })

pub returns : goal.returns
returns c =
    let s = c.in_ok-read_onto.ensures.sound in
    let e = c.in_ok-read_onto.ensures.accepted in
    record {
      answer = accepted_answer _ _ s e;
      after = accepted_after _ _ s e _ _ (search rules);
      loads = accepted _ _ s e _ _ (search rules);
      sound = search rules;
      fields = takes_fields;
      one_sheet = one_sheet;
    }
