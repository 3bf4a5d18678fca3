-- The kinds of fields, which their tags name.
use Rattle.std.specs.Prelude.{ℕ, [], ◌∷◌, find, Result, ◌==◌}
use Rattle.std.specs.Option.{ok_or}
use Rattle.card.specs.declared.fault.Cause.{Cause}
use Rattle.card.specs.declared.tag.Tag.{Tag}

-- the byte of a tag
abbrev pub byte_of : Tag → ℕ
byte_of Tag.Mode = 1
byte_of Tag.Setting = 2
byte_of Tag.Row = 3

-- how many bytes the value of a field with this tag has
abbrev pub value_length : Tag → ℕ
value_length Tag.Mode = 1
value_length Tag.Setting = 6
value_length Tag.Row = 9

-- the tag that has this byte, if one has it
abbrev pub tag_at : ℕ → Result Tag Cause
tag_at b = ok_or (find (λ t. byte_of t == b) (Tag.Mode ∷ Tag.Setting ∷ Tag.Row ∷ [])) Cause.UnknownTag
