use Rattle.std.proofs.Common.{◌≡◌, true, false, List, [], ◌∷◌, Err, ℕ, refl}
use Rattle.line.specs.Calls.{end_of}
use Rattle.line.specs.declared.calls.Call.{Call}
use Rattle.line.specs.declared.calls.NotCall.TheVariants.{TooManyWords}
use Rattle.line.proofs.reading.end.Goals as goal

-- a word is left over
over : (call : Call) (ws : List (List ℕ)) → (ws ≡ [] → false ≡ true) → Err TooManyWords ≡ end_of call ws
over call [] h = let z = h refl in cc
over call (w ∷ ws) h = refl

pub returns-else-is_empty : goal.returns-else-is_empty
returns-else-is_empty c = over c.args.call c.args.words.now c.if-is_empty.ensures.1
