-- The joins of SQL: pairs of rows that match, and rows without a match beside nulls.
use Rattle.std.specs.Prelude.{Bool, true, not, List, ◌++◌, length, map, filter, replicate, Option, None, Some}
use Rattle.std.specs.List.{flat_map, list_any}
use Rattle.cn_types.specs.declared.row.Row.{Row}
use Rattle.cn_types.specs.declared.value.DataType.{DataType}
use Rattle.cn_types.specs.declared.value.Value.TheVariants.{Null}
use Rattle.plan_model.specs.declared.expression.TypedExpr.{TypedExpr}
use Rattle.plan_model.specs.declared.node.JoinKind.{JoinKind}
use Rattle.plan_model.specs.Counts.{SameCounts}
use Rattle.plan_model.specs.Truth.{is_true}
use Rattle.plan_model.specs.Val.{val}

-- two rows side by side
abbrev pub beside : Row → Row → Row
beside left right = record { 0 = left.0 ++ right.0 }

-- a row of nulls in columns of these types
abbrev pub nulls : List DataType → Row
nulls kinds = record { 0 = replicate (length kinds) Null }

-- two rows match where the condition is true of them side by side; without a condition each pair matches
abbrev pub matches : Option TypedExpr → Row → Row → Bool
matches None left right = true
matches (Some condition) left right = is_true (val condition (beside left right))

-- what a join goes by: which rows match, and the rows of nulls that stand in place of a left and of a right row
pub record Joining : Type 0 where
  pub matching : Row → Row → Bool
  pub left_nulls : Row
  pub right_nulls : Row

-- the pairs that match, side by side
abbrev pub pairs : Joining → List Row → List Row → List Row
pairs joining a b = flat_map (λ left. map (beside left) (filter (joining.matching left) b)) a

-- the left row has a match in the list, and the right row has one
abbrev pub has_right : Joining → List Row → Row → Bool
has_right joining b left = list_any (λ right. joining.matching left right) b

abbrev pub has_left : Joining → List Row → Row → Bool
has_left joining a right = list_any (λ left. joining.matching left right) a

-- the rows of one side without a match, beside nulls
abbrev pub left_alone : Joining → List Row → List Row → List Row
left_alone joining a b = map (λ left. beside left joining.right_nulls) (filter (λ left. not (has_right joining b left)) a)

abbrev pub right_alone : Joining → List Row → List Row → List Row
right_alone joining a b = map (λ right. beside joining.left_nulls right) (filter (λ right. not (has_left joining a right)) b)

-- the rows of a join, in one order
abbrev pub joined : JoinKind → Joining → List Row → List Row → List Row
joined JoinKind.Inner joining a b = pairs joining a b
joined JoinKind.Cross joining a b = pairs joining a b
joined JoinKind.Left joining a b = pairs joining a b ++ left_alone joining a b
joined JoinKind.Right joining a b = pairs joining a b ++ right_alone joining a b
joined JoinKind.Full joining a b = pairs joining a b ++ left_alone joining a b ++ right_alone joining a b
joined JoinKind.Semi joining a b = filter (has_right joining b) a
joined JoinKind.Anti joining a b = filter (λ left. not (has_right joining b left)) a

-- the rows of a join, in any order
abbrev pub IsJoin : JoinKind → Joining → List Row → List Row → List Row → Type 0
IsJoin kind joining a b rows = SameCounts rows (joined kind joining a b)
