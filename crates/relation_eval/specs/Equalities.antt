-- Columns of both sides whose values a condition asks to be the same.
use Rattle.std.specs.Prelude.{◌≡◌, ℕ, ◌+◌, ◌<◌, Bool, true, false, All, List}
use Rattle.std.specs.List.{list_all}
use Rattle.cn_types.specs.declared.row.Row.{Row}
use Rattle.cn_types.specs.declared.value.DataType.{DataType}
use Rattle.cn_types.specs.declared.value.Value.{Value}
use Rattle.cn_types.specs.declared.value.Value.TheVariants.{Null, Boolean, Integer, Long, Text, Date}
use Rattle.cn_types.specs.Fit.{value_at}
use Rattle.plan_model.specs.Truth.{is_present}
use Rattle.relation_eval.specs.declared.equalities.Equality.{Equality}
use Rattle.relation_eval.specs.Matches.{is_candidate}

-- the value is null or of the type
abbrev pub is_of_kind : DataType → Value → Bool
is_of_kind kind Null = true
is_of_kind DataType.Boolean (Boolean value) = true
is_of_kind DataType.Integer (Integer value) = true
is_of_kind DataType.Long (Long value) = true
is_of_kind DataType.Text (Text value) = true
is_of_kind DataType.Date (Date days) = true
is_of_kind kind value = false

-- and so are all values of a column
abbrev pub are_of_kind : DataType → ℕ → List Row → Bool
are_of_kind kind column rows = list_all (λ row. is_of_kind kind (value_at column row)) rows

-- two values are the same and not null, where both are null or of one type
abbrev pub AreSame : Value → Value → Type 0
AreSame a b = (kind : DataType) → is_of_kind kind a ≡ true → is_of_kind kind b ≡ true → (a ≡ b) × (is_present a ≡ true)

-- the equality holds of a row, in which the right values stand behind so many left ones
abbrev pub IsMet : ℕ → Row → Equality → Type 0
IsMet width row equality = (equality.left < width) × AreSame (value_at equality.left row) (value_at (width + equality.right) row)

-- the equality holds of a left and a right row
abbrev pub IsShared : Row → Row → Equality → Type 0
IsShared left right equality = AreSame (value_at equality.left left) (value_at equality.right right)

-- of these rows, those of which all of the equalities hold are candidates
abbrev pub CandidatesShare : List Equality → List ℕ → List ℕ → List Row → List Row → Type 0
CandidatesShare equalities lefts rights a b = All (λ left. All (λ right. All (IsShared left right) equalities → is_candidate lefts rights left right ≡ true) b) a
