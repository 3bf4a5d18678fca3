use Rattle.std.specs.Result.{result_ok}
use Rattle.std.proofs.Common.{ap, ◌≡◌, ℕ, ◌<◌, map, Result, ◌∙◌, subst}
use Rattle.std.proofs.lemmas.Option.{MatchOption-at_some}
use Rattle.sheet.specs.Limits.{last_place}
use Rattle.std.specs.Option.{ok_or}
use Rattle.sheet.specs.declared.fault.Fault.{Fault}
use Rattle.sheet.specs.declared.place_sums.PlaceSums.{PlaceSums}
use Rattle.sheet.specs.Holds.{row_of}
use Rattle.sheet.specs.Parts.{ReadsSums}
use Rattle.sheet.specs.Refusals.{answer_of}
use Rattle.sheet.specs.Shown.{Shows}
use Rattle.sheet.proofs.Results.{from_map_err}
use Rattle.sheet.proofs.Showing.{shown}
use Rattle.sheet.proofs.rows.Rows.percentages.Goals as goal

pub returns : goal.returns
returns c m e =
    let rs = c.args.self.now in
    let x = c.in_ok-sums.sums in
    let p = c.in_ok-at.at.number in
    let o = c.percentages.result in
    let P : Result PlaceSums ℕ → Type 0 = ReadsSums (map row_of rs) p in
    let h = subst P (from_map_err _ c.sums.result c.map_err.result x c.map_err.ensures.cases c.in_ok-sums.was) c.sums.ensures in
    let Q : ℕ → Type 0 = λ n. Shows m n (answer_of (ok_or o (Fault.RowsMissing n))) in
    let n : p ≡ c.args.place =
    MatchOption-at_some (last_place < c.args.place) (λ q. q.number ≡ c.args.place) c.in_ok-at.at
    ((c.ok_or.ensures.ok_part ∙ ap result_ok c.in_ok-at.was)) c.new.ensures in
    rw c.ok_or-2.ensures.value (subst Q n (shown rs m e p c.in_ok-at.at.within x.sums o h.0 h.1 c.percentages.ensures))
