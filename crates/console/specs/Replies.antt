-- What a call is answered, and what it leaves on the sheet.
use Rattle.std.specs.Prelude.{◌≡◌, ℕ, Some, None, Ok, Err, Option, Result, MatchOption}
use Rattle.console.specs.declared.answers.Answer.{Answer}
use Rattle.line.specs.declared.calls.Call.{Call}
use Rattle.line.specs.declared.calls.NotCall.{NotCall}
use Rattle.sheet.specs.declared.fault.Refusal.{Refusal}
use Rattle.sheet.specs.Calls.{enter_answer, entered, strike_answer, struck, set_answer, was_set, blank_answer, blanked, mode_answer, mode_put}
use Rattle.sheet.specs.Model.{Model, new_model}
use Rattle.sheet.specs.Refusals.{refusal_of}
use Rattle.sheet.specs.Shown.{Shows}

-- an answer that tells what a result tells: done, or the refusal
abbrev pub TellsDone : Answer → Result (Unit {0}) Refusal → Type 0
TellsDone (Answer.Row n) r = ⊥
TellsDone Answer.Done r = r ≡ Ok tt
TellsDone (Answer.Shown x) r = ⊥
TellsDone (Answer.Refused f) r = r ≡ Err (refusal_of f)
TellsDone (Answer.NotCall w) r = ⊥

-- the row's number, or the refusal
abbrev pub TellsRow : Answer → Result ℕ Refusal → Type 0
TellsRow (Answer.Row n) r = r ≡ Ok n
TellsRow Answer.Done r = ⊥
TellsRow (Answer.Shown x) r = ⊥
TellsRow (Answer.Refused f) r = r ≡ Err (refusal_of f)
TellsRow (Answer.NotCall w) r = ⊥

-- the percentages of a place, or the refusal
abbrev pub TellsShown : Answer → Model → ℕ → Type 0
TellsShown (Answer.Row n) m p = ⊥
TellsShown Answer.Done m p = ⊥
TellsShown (Answer.Shown x) m p = Shows m p (Ok x)
TellsShown (Answer.Refused f) m p = Shows m p (Err (refusal_of f))
TellsShown (Answer.NotCall w) m p = ⊥

-- the answer a to a call on the sheet m, which leaves the sheet n
abbrev pub Replies : Call → Model → Answer → Model → Type 0
Replies (Call.Enter p rate s dc) m a n = TellsRow a (enter_answer m p rate s dc) × (n ≡ entered m p rate s dc)
Replies (Call.Strike i) m a n = TellsDone a (strike_answer m i) × (n ≡ struck m i)
Replies (Call.Set p f v) m a n = TellsDone a (set_answer p f v) × (n ≡ was_set m p f v)
Replies (Call.Blank p f) m a n = TellsDone a (blank_answer p f) × (n ≡ blanked m p f)
Replies (Call.Mode l) m a n = TellsDone a (mode_answer l) × (n ≡ mode_put m l)
Replies Call.Clear m a n = (a ≡ Answer.Done) × (n ≡ new_model)
Replies (Call.Show p) m a n = TellsShown a m p × (n ≡ m)

-- the answer to a line, by what the line is read as: a line without words has none, and one that is no call changes nothing
abbrev pub Responds : Result (Option Call) NotCall → Model → Option Answer → Model → Type 0
Responds (Ok None) m r n = (r ≡ None) × (n ≡ m)
Responds (Ok (Some c)) m r n = MatchOption r ⊥ (λ a. Replies c m a n)
Responds (Err w) m r n = (r ≡ Some (Answer.NotCall w)) × (n ≡ m)
