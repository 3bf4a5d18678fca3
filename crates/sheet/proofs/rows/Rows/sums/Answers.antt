use Rattle.std.specs.Result.{result_ok}
use Rattle.std.proofs.Common.{ap, ◌+◌, map, drop, sym, ◌∙◌, subst}
use Rattle.std.proofs.lemmas.Bool.{eqb-true, eqb-false}
use Rattle.std.proofs.lemmas.Result.{err_from_is_err_and}
use Rattle.sheet.specs.declared.rates.RateSums.{RateSums}
use Rattle.sheet.specs.Holds.{row_of}
use Rattle.sheet.proofs.Results.{from_err}
use Rattle.sheet.proofs.Summed.{Summing, sum_start, sum_next, sum_pass, sum_add, sum_stop, sum_last, sum_end, few_so_far, row_bounded}
use Rattle.sheet.proofs.rows.Rows.sums.Goals as goal
use Rattle.sheet.proofs.rows.Rows.sums.Goals.{then-eq+in_ok-ok_or, else-eq}

pub loop-i-init : goal.loop-i-init
loop-i-init c = sum_start c.args.place.number (map row_of c.as_slice-row-items.result.now)

pub loop-i-preserved : goal.loop-i-preserved
loop-i-preserved c =
    let p = c.args.place.number in
    let rs = c.as_slice-row-items.result.now in
    let i = c.loop-i.i in
    let r = c.row-item.result in
    let rest = map row_of (drop (i + 1) rs) in
    let h = sum_next p rs i c.loop-i.sums c.loop-i.invariant r c.loop-i-test.true c.row-item.is in
    let P : RateSums → Type 0 = Summing p (map row_of rs) (i + 1) rest in
    elim c.if-eq.branch [
      | then-eq+in_ok-ok_or w ↦
          let x = w.in_ok-ok_or.field-0 in
          let e = sym w.split.ensures ∙ (w.ok_or.ensures.ok_part ∙ ap result_ok w.in_ok-ok_or.was) in
          subst P (sym w.plus-sums.ensures ∙ sym w.sums-is)
          (sum_add p (map row_of rs) i (row_of r) rest c.loop-i.sums h (eqb-true _ _ (sym c.eq.ensures ∙ w.if-eq.true)) x e (row_bounded r x e))
      | else-eq w ↦
          subst P (sym w.sums-is) (sum_pass p (map row_of rs) i (row_of r) rest c.loop-i.sums h (eqb-false _ _ (sym c.eq.ensures ∙ w.if-eq.false)))
    ]

pub returns-in_err-ok_or : goal.returns-in_err-ok_or
returns-in_err-ok_or c =
    let p = c.args.place.number in
    let rs = c.as_slice-row-items.result.now in
    let i = c.loop-i.i in
    let r = c.row-item.result in
    let h = sum_next p rs i c.loop-i.sums c.loop-i.invariant r c.loop-i-test.true c.row-item.is in
    let q = err_from_is_err_and c.from_residual.result c.from_residual.ensures.1 in
    let n = from_err c.split.result i c.in_err-ok_or.field-0.0 (sym c.ok_or.ensures.value ∙ c.in_err-ok_or.was) in
    rw (q.1, q.2, n.1, ← c.as_slice-row-items.ensures.value)
    (sum_stop p (map row_of rs) i (row_of r) (map row_of (drop (i + 1) rs)) c.loop-i.sums h (eqb-true _ _ (sym c.eq.ensures ∙ c.if-eq.true))
    (sym c.split.ensures ∙ n.0))

pub plus-sums-requires : goal.plus-sums-requires
plus-sums-requires c =
    let x = c.in_ok-ok_or.field-0 in
    let r = c.row-item.result in (
      few_so_far c.loop-i.i c.as_slice-row-items.result.now c.loop-i.sums c.loop-i.auto.i-end
          (rw c.as_slice-row-items.ensures.value c.as_slice-row-items.ensures.few) c.loop-i.invariant.bounded,
      row_bounded r x (sym c.split.ensures ∙ (c.ok_or.ensures.ok_part ∙ ap result_ok c.in_ok-ok_or.was)),
    )

pub returns : goal.returns
returns c =
    let rs = c.as_slice-row-items.result.now in
    let e =
    sum_end c.args.place.number (map row_of rs) c.loop-i.i c.loop-i.sums
    (sum_last c.args.place.number rs c.loop-i.i c.loop-i.sums c.loop-i.invariant c.loop-i-test.false) in
    rw (← c.as_slice-row-items.ensures.value) e

pub invariant_of-result : goal.invariant_of-result
invariant_of-result c =
    record {
      bounded =
          few_so_far c.loop-i.i c.as_slice-row-items.result.now c.loop-i.sums c.loop-i.auto.i-end
          (rw c.as_slice-row-items.ensures.value c.as_slice-row-items.ensures.few) c.loop-i.invariant.bounded;
    }
