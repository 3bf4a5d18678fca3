use Rattle.std.proofs.Common.{◌≡◌, ◌+◌, [], length, refl, sym, ap, ◌∙◌, ⊎_elim, add-zero, append-nil, arith, rules}
use Rattle.std.proofs.lemmas.List.{nil_from_length}
use Rattle.std.specs.Slice.Iter.{iter_rest}
use Rattle.card_writer.proofs.Growing.{blank_next, field_next, short_part}
use Rattle.card_writer.proofs.filling.push_place.Goals as goal

pub loop-field-init : goal.loop-field-init
loop-field-init c =
    let items : iter_rest c.into_iter-field-iterator.result.b ≡ c.args.values.now = search rules in
    let eight : 0 + length c.args.values.now ≡ 8 = search rules in
    (search rules, tt, (0, search rules, rw items eight, rw (items, add-zero) refl))

pub push-requires : goal.push-requires
push-requires c =
    let inv = c.loop-field.invariant.2 in
    let s = c.in-Some.ensures.steps in
    let more = ap length s.1 in
    let now = rw (s.1, c.in-Some-value.is) at inv.3 in
    short_part _ _ _ (field_next _ _ c.args.place inv.0 (iter_rest c.next.new.self.b) (omega (arith, more, inv.2)) c.in-Some.field c.in-Some-value.value (s.0.0 ∙ inv.1) now) c.requires

pub loop-field-preserved-in-Some-value : goal.loop-field-preserved-in-Some-value
loop-field-preserved-in-Some-value c =
    let inv = c.loop-field.invariant.2 in
    let s = c.in-Some.ensures.steps in
    let more = ap length s.1 in
    let now = rw (s.1, c.in-Some-value.is) at inv.3 in (
      search rules,
      tt,
      (
        inv.0 + 1,
        omega (arith, s.0.0, s.0.1, inv.1),
        omega (arith, more, inv.2),
        rw c.push.ensures (field_next _ _ c.args.place inv.0 (iter_rest c.next.new.self.b) (omega (arith, more, inv.2)) c.in-Some.field c.in-Some-value.value (s.0.0 ∙ inv.1) now),
      ),
    )

pub loop-field-preserved : goal.loop-field-preserved
loop-field-preserved c =
    let inv = c.loop-field.invariant.2 in
    let s = c.in-Some.ensures.steps in
    let more = ap length s.1 in
    let now = rw (s.1, c.in_default.is) at inv.3 in (
      search rules,
      tt,
      (
        inv.0 + 1,
        omega (arith, s.0.0, s.0.1, inv.1),
        omega (arith, more, inv.2),
        blank_next _ _ c.args.place inv.0 (iter_rest c.next.new.self.b) (omega (arith, more, inv.2)) now,
      ),
    )

pub returns : goal.returns
returns c =
    let inv = c.loop-field.invariant.2 in
    let none : iter_rest c.loop-field.field-iterator.b ≡ [] = ⊎_elim (λ s. absurd (omega (arith, s.1.0, inv.1, inv.2))) (λ s. nil_from_length _ s.1.0) c.in-None.ensures.steps in
    sym (append-nil _) ∙ rw none at inv.3
