use Rattle.std.proofs.Common.{sym, ◌∙◌, append-nil}
use Rattle.std.proofs.Math.ListN.{drop_of_length-le}
use Rattle.card_writer.proofs.Growing.{card_parts, card_short, row_next, short_part}
use Rattle.card_writer.proofs.filling.fill.Goals as goal

pub loop-row-init : goal.loop-row-init
loop-row-init c = rw (c.push_settings.ensures, c.rows-rows.ensures.rows) (card_parts c.args.sheet.now)

pub push-requires : goal.push-requires
push-requires c =
    let m = c.args.sheet.now in
    rw c.entry_of.ensures
    (short_part _ _ _ (row_next _ _ c.loop-row.row-index c.rows-rows.result.now c.row-item.result c.loop-row-test.true c.row-item.is c.loop-row.invariant) (card_short m c.rows-rows.ensures.sound))

pub loop-row-preserved : goal.loop-row-preserved
loop-row-preserved c =
    rw (c.push.ensures, c.entry_of.ensures)
    (row_next _ _ c.loop-row.row-index c.rows-rows.result.now c.row-item.result c.loop-row-test.true c.row-item.is c.loop-row.invariant)

pub returns-clause-value : goal.returns-clause-value
returns-clause-value c =
    let none = drop_of_length-le c.rows-rows.result.now {i = c.loop-row.row-index} c.loop-row-test.false in
    sym (append-nil _) ∙ rw none at c.loop-row.invariant
