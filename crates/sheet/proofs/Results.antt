-- What `ok_or` and `map_err` were made from.
use Rattle.std.proofs.Common.{◌≡◌, Some, None, Ok, Err, Option, Result, sym, refl, ◌∙◌, MatchResult, IsErrAnd}
use Rattle.std.specs.Option.{ok_or}
use Rattle.std.specs.Result.{result_ok}

-- what `ok_or` was made from
pub from_err : {A E : Type 0} (o : Option A) (e d : E) → ok_or o e ≡ Err d → (o ≡ None) × (d ≡ e)
from_err None e d h = (refl, cc)
from_err (Some y) e d h = cc

-- what `map_err` was made from
pub from_map_err : {A E F : Type 0} (Q : E → F → Type 0) (r : Result A E) (s : Result A F) (x : A)
    → MatchResult r (λ y. s ≡ Ok y) (λ e. IsErrAnd s (Q e)) → s ≡ Ok x → r ≡ Ok x
from_map_err Q (Ok y) s x h e = let q : Ok y ≡ Ok x = sym h ∙ e in cc
from_map_err Q (Err d) (Ok y) x h e = absurd h
from_map_err Q (Err d) (Err f) x h e = cc

-- what `ok` was made from
pub from_ok : {A E : Type 0} (r : Result A E) (x : A) → result_ok r ≡ Some x → r ≡ Ok x
from_ok (Ok y) x h = cc
from_ok (Err e) x h = cc
