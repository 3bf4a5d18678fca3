-- The refusals of a card.
use Rattle.std.specs.Prelude.{ℕ, None}
use Rattle.card.specs.declared.fault.CardFault.{CardFault}
use Rattle.card.specs.declared.fault.CardRefusal.{CardRefusal}
use Rattle.card.specs.declared.fault.Cause.{Cause}
use Rattle.sheet.specs.declared.fault.Layer.{Layer}
use Rattle.sheet.specs.declared.fault.Refusal.{Refusal}
use Rattle.sheet.specs.Refusals.{refusal_of}

-- a refusal of the card, which names neither place nor item
abbrev pub card_refusal : ℕ → Refusal
card_refusal n = record { number = n; place = None; item = None; layer = Layer.Card }

-- a refusal with the byte at which the refused field starts, the first byte of a card being 0
abbrev pub at_byte : ℕ → Refusal → CardRefusal
at_byte b r = record { refusal = r; byte = b }

-- every cause, by its refusal: that of the sheet is carried whole
abbrev pub cause_refusal : Cause → Refusal
cause_refusal Cause.CutShort = card_refusal 14
cause_refusal Cause.UnknownTag = card_refusal 15
cause_refusal Cause.WrongLength = card_refusal 16
cause_refusal Cause.OutOfOrder = card_refusal 17
cause_refusal (Cause.Sheet f) = refusal_of f

abbrev pub fault_refusal : CardFault → CardRefusal
fault_refusal f = at_byte f.byte (cause_refusal f.cause)
