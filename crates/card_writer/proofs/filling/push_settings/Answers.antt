use Rattle.std.proofs.Common.{None, Some, ◌*◌, sym, ◌∙◌, append-nil, arith, rules}
use Rattle.sheet.specs.declared.place.Place.{Place}
use Rattle.std.proofs.Math.ListN.{drop_of_length-le}
use Rattle.card_writer.proofs.Growing.{place_next, settings_short, short_part}
use Rattle.card_writer.proofs.Places.{place_turn}
use Rattle.card_writer.proofs.filling.push_settings.Goals as goal

pub push_place-requires : goal.push_place-requires
push_place-requires c =
    let m = c.args.sheet.now in
    let all = c.requires.sound in
    let inv = c.loop-place.invariant in
    let s = place_turn (λ (p : Place). p.number) c.loop-place.place-iterator c.next.new.self (Some c.in-Some.place) inv.2 c.in-Some.ensures.steps (λ f x r h k. search rules) in
    let next = place_next c.loop-place.card.items _ c.loop-place.place-iterator.iter.start m.fields (omega (arith, all.all_fields_stand, s.1.1)) inv.4 in
    rw (c.values.ensures.value, s.1.0) (short_part _ _ _ next (settings_short m all))

pub loop-place-preserved : goal.loop-place-preserved
loop-place-preserved c =
    let m = c.args.sheet.now in
    let all = c.requires.sound in
    let inv = c.loop-place.invariant in
    let s = place_turn (λ (p : Place). p.number) c.loop-place.place-iterator c.next.new.self (Some c.in-Some.place) inv.2 c.in-Some.ensures.steps (λ f x r h k. search rules) in
    let next = place_next c.loop-place.card.items _ c.loop-place.place-iterator.iter.start m.fields (omega (arith, all.all_fields_stand, s.1.1)) inv.4 in
    (search rules, tt, s.0, omega (arith, s.1.1, s.1.2), rw (c.push_place.ensures, c.values.ensures.value, s.1.0, s.1.2) next)

pub returns : goal.returns
returns c =
    let m = c.args.sheet.now in
    let all = c.requires.sound in
    let inv = c.loop-place.invariant in
    let s = place_turn (λ (p : Place). p.number) c.loop-place.place-iterator c.next.new.self None inv.2 c.in-None.ensures.steps (λ f x r h k. search rules) in
    let none = drop_of_length-le m.fields {i = 8 * c.loop-place.place-iterator.iter.start} (omega (arith, all.all_fields_stand, s.1)) in
    sym (append-nil _) ∙ rw none at inv.4
