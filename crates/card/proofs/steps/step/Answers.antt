use Rattle.std.proofs.Common.{◌≡◌, true, None, sym, ◌∙◌, arith}
use Rattle.card.specs.Reading.{in_order}
use Rattle.card.proofs.Takes.{entry_put, entry_refusal, made_is, no_refusal}
use Rattle.card.proofs.Ordered.{card_on, last_on}
use Rattle.card.proofs.Spelling.{entry_spelled, field_fits}
use Rattle.card.proofs.steps.step.Goals as goal

pub returns-clause-stepped : goal.returns-clause-stepped
returns-clause-stepped c =
    let m = c.args.sheet.now in
    let e = c.in_ok-entry.entry in
    let o : in_order m e ≡ true = c.requires.decides e ∙ sym c.if-not-may_follow.ensures in
    let q : entry_refusal m e ≡ None = no_refusal m e c.in_ok-apply.ensures.answer in
    let s = entry_spelled c.args.bytes.now e (λ i. omega (arith, c.type_inv.bytes i)) (sym c.in_ok-entry.ensures) in
    let a : c.apply.new.sheet ≡ entry_put m e = c.apply.ensures.after ∙ made_is m e q in
    record {
      within = field_fits _ e s;
      made = c.apply.ensures.after;
      last = rw a (last_on m e c.requires.all o q);
      follow = rw a (card_on m e _ c.requires.all o q s);
    }
