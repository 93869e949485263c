-- What the definitions hold of two rows side by side, of appended inputs and of one more row: what an evaluation in one pass goes by.
use Rattle.std.specs.Prelude.{◌≡◌, ◌≢◌, ◌<◌, ℕ, ◌+◌, ◌+ℤ◌, pos, ◌&&◌, ◌||◌, false, List, [], ◌∷◌, ◌++◌, length}
use Rattle.std.specs.Ordering.{ord_min, ord_max}
use Rattle.cn_types.specs.declared.row.Row.{Row}
use Rattle.cn_types.specs.declared.value.DataType.{DataType}
use Rattle.cn_types.specs.declared.value.Value.{Value}
use Rattle.cn_types.specs.declared.value.Value.TheVariants.{Null, Long}
use Rattle.cn_types.specs.Fit.{HasType, FitsTypes, value_at}
use Rattle.cn_types.specs.Order.{count, value_cmp, value_eq}
use Rattle.plan_model.specs.declared.expression.TypedExpr.{TypedExpr}
use Rattle.plan_model.specs.declared.function.Function.{Function}
use Rattle.plan_model.specs.Aggregates.{present, total, unless_empty, count_of, sum_of, least, greatest}
use Rattle.plan_model.specs.Arithmetic.{wrapped_long}
use Rattle.plan_model.specs.Counts.{SameCounts, HasEachOnce}
use Rattle.plan_model.specs.Functions.{call}
use Rattle.plan_model.specs.Groups.{group}
use Rattle.plan_model.specs.Joins.{Joining, beside, pairs, has_right, has_left}
use Rattle.plan_model.specs.Truth.{is_true, is_present}
use Rattle.plan_model.specs.Val.{val}
use Rattle.plan_model.specs.WellFormed.{IsOver}

-- columns and expressions of one side of two rows; `and` is true where both are, and `=` of one type where both are the same value and not null
pub record ConditionsOfPairs : Type 0 where
  pub left_column : (left right : Row) (place : ℕ) → place < length left.0 → value_at place (beside left right) ≡ value_at place left
  pub right_column : (left right : Row) (place : ℕ) → value_at (length left.0 + place) (beside left right) ≡ value_at place right
  pub of_the_left : (columns : List DataType) (expr : TypedExpr) (left right : Row) → IsOver columns expr → FitsTypes columns left → val expr (beside left right) ≡ val expr left
  pub both_true : (a b : Value) → is_true (call Function.And DataType.Boolean (a ∷ b ∷ [])) ≡ (is_true a && is_true b)
  pub same_keys : (kind : DataType) (a b : Value) → HasType kind a → HasType kind b → is_true (call Function.EqualTo DataType.Boolean (a ∷ b ∷ [])) ≡ (is_present a && value_eq a b)

-- the pairs of appended inputs, and whether a row has a match in one
pub record JoinsGrow : Type 0 where
  pub more_left : (joining : Joining) (a c b : List Row) → pairs joining (a ++ c) b ≡ pairs joining a b ++ pairs joining c b
  pub more_right : (joining : Joining) (a b d : List Row) → SameCounts (pairs joining a (b ++ d)) (pairs joining a b ++ pairs joining a d)
  pub match_right : (joining : Joining) (b d : List Row) (left : Row) → has_right joining (b ++ d) left ≡ (has_right joining b left || has_right joining d left)
  pub match_left : (joining : Joining) (a c : List Row) (right : Row) → has_left joining (a ++ c) right ≡ (has_left joining a right || has_left joining c right)

-- groups of appended rows, and aggregates over appended values and over one more
pub record GroupsGrow : Type 0 where
  pub groups : (keys : List TypedExpr) (rows more : List Row) (key : Row) → group keys (rows ++ more) key ≡ group keys rows key ++ group keys more key
  pub present_values : (xs ys : List Value) → present (xs ++ ys) ≡ present xs ++ present ys
  pub counts : (xs ys : List Value) → count_of false (xs ++ ys) ≡ Long (pos (length (present xs) + length (present ys)))
  pub sums : (xs ys : List Value) → sum_of (xs ++ ys) ≡ unless_empty (present xs ++ present ys) (wrapped_long (total (present xs) +ℤ total (present ys)))
  pub least_of_more : (xs : List Value) (value : Value) → present xs ≢ [] → value ≢ Null → least (xs ++ (value ∷ [])) ≡ ord_min value_cmp (least xs) value
  pub greatest_of_more : (xs : List Value) (value : Value) → present xs ≢ [] → value ≢ Null → greatest (xs ++ (value ∷ [])) ≡ ord_max value_cmp (greatest xs) value

-- each row once, of one more row that was there already, or was not
pub record RowsOnceGrow : Type 0 where
  pub seen : (different rows : List Row) (row : Row) → HasEachOnce different rows → 0 < count rows row → HasEachOnce different (rows ++ (row ∷ []))
  pub unseen : (different rows : List Row) (row : Row) → HasEachOnce different rows → count rows row ≡ 0 → HasEachOnce (different ++ (row ∷ [])) (rows ++ (row ∷ []))
