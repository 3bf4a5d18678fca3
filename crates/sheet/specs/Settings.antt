-- The settings as the unit keeps them, by the numbers of the fields and of their values.
use Rattle.std.specs.Prelude.{ℕ, List, [], ◌∷◌, ◌++◌, Option}
use Rattle.std.specs.Option.{option_map}
use Rattle.sheet.specs.declared.choice.ComponentType.{ComponentType}
use Rattle.sheet.specs.declared.choice.VotingKind.{VotingKind}
use Rattle.sheet.specs.declared.field.Field.{Field}
use Rattle.sheet.specs.declared.setting.Setting.{Setting}
use Rattle.sheet.specs.declared.record.PlaceRecord.{PlaceRecord}

-- the code of the letter A or B
abbrev pub component_code : ComponentType → ℕ
component_code ComponentType.A = 65
component_code ComponentType.B = 66

abbrev pub voting_code : VotingKind → ℕ
voting_code VotingKind.OneOutOfOne = 1
voting_code VotingKind.TwoOutOfTwo = 2
voting_code VotingKind.OneOutOfTwo = 3
voting_code VotingKind.TwoOutOfThree = 4
voting_code VotingKind.OneOutOfTwoD = 5

abbrev pub field_number : Field → ℕ
field_number Field.ProofTestInterval = 1
field_number Field.Mttr = 2
field_number Field.Mrt = 3
field_number Field.Beta = 4
field_number Field.BetaD = 5
field_number Field.K = 6
field_number Field.ComponentType = 7
field_number Field.Voting = 8

abbrev pub setting_number : Setting → ℕ
setting_number (Setting.ProofTestInterval v) = 1
setting_number (Setting.Mttr v) = 2
setting_number (Setting.Mrt v) = 3
setting_number (Setting.Beta v) = 4
setting_number (Setting.BetaD v) = 5
setting_number (Setting.K v) = 6
setting_number (Setting.ComponentType v) = 7
setting_number (Setting.Voting v) = 8

abbrev pub setting_value : Setting → Option ℕ
setting_value (Setting.ProofTestInterval v) = v
setting_value (Setting.Mttr v) = v
setting_value (Setting.Mrt v) = v
setting_value (Setting.Beta v) = v
setting_value (Setting.BetaD v) = v
setting_value (Setting.K v) = v
setting_value (Setting.ComponentType v) = option_map component_code v
setting_value (Setting.Voting v) = option_map voting_code v

-- the eight fields of a place in order
abbrev pub fields_of : PlaceRecord → List (Option ℕ)
fields_of r =
    r.proof_test_interval ∷ r.mttr ∷ r.mrt ∷ r.beta ∷ r.beta_d ∷ r.k ∷ option_map component_code r.component_type
    ∷ option_map voting_code r.voting ∷ []

-- the fields of all places in order
abbrev pub all_fields : List PlaceRecord → List (Option ℕ)
all_fields [] = []
all_fields (r ∷ rs) = fields_of r ++ all_fields rs
