-- The sheet's refusals, and how the first check that fails decides a call.
use Rattle.std.specs.Prelude.{ℕ, Bool, cond, List, [], ◌∷◌, Some, None, Ok, Err, Option, Result}
use Rattle.sheet.specs.declared.fault.Fault.{Fault}
use Rattle.sheet.specs.declared.fault.Layer.{Layer}
use Rattle.sheet.specs.declared.fault.Refusal.{Refusal}

-- the number that a layer of the unit is told by
abbrev pub layer_number : Layer → ℕ
layer_number Layer.Sheet = 1
layer_number Layer.Card = 4

-- a refusal of the sheet: its number, and the place and the item that it names
abbrev pub refusal : ℕ → Option ℕ → Option ℕ → Refusal
refusal n p i = record { number = n; place = p; item = i; layer = Layer.Sheet }

-- every fault, by its refusal
abbrev pub refusal_of : Fault → Refusal
refusal_of (Fault.PlaceOver p i) = refusal 1 (Some p) i
refusal_of (Fault.RateOutside p) = refusal 2 (Some p) None
refusal_of (Fault.ShareOver p) = refusal 3 (Some p) None
refusal_of (Fault.SheetFull p) = refusal 4 (Some p) None
refusal_of (Fault.RowBeyond r) = refusal 5 None (Some r)
refusal_of (Fault.FieldOutside p f) = refusal 6 (Some p) (Some f)
refusal_of (Fault.ValueOutside p f) = refusal 7 (Some p) (Some f)
refusal_of Fault.LetterUnknown = refusal 8 None None
refusal_of (Fault.RowsMissing p) = refusal 11 (Some p) None
refusal_of (Fault.ShareBlank p r) = refusal 12 (Some p) (Some r)

-- an answer of the unit, with the refusal in place of the fault
abbrev pub answer_of : {X : Type 0} → Result X Fault → Result X Refusal
answer_of (Ok x) = Ok x
answer_of (Err f) = Err (refusal_of f)

-- a check of a call: whether it fails, and the refusal if it does
pub record Check : Type 0 where
  pub fails : Bool
  pub tells : Refusal

abbrev pub check : Bool → Refusal → Check
check b r = record { fails = b; tells = r }

-- the first check that fails counts
abbrev pub first_failing : List Check → Option Refusal
first_failing [] = None
first_failing (c ∷ cs) = cond c.fails (Some c.tells) (first_failing cs)

-- what a call answers, and what it leaves of two states: what was, where it is refused, else what it makes
abbrev pub answered : {X : Type 0} → Option Refusal → X → Result X Refusal
answered None x = Ok x
answered (Some r) x = Err r

abbrev pub after_call : {M : Type 0} → Option Refusal → M → M → M
after_call None was made = made
after_call (Some r) was made = was

-- the first of two refusals
abbrev pub or_else : Option Refusal → Option Refusal → Option Refusal
or_else None b = b
or_else (Some r) b = Some r
