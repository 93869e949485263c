-- What a join of rows of known widths goes by, and its rows as they are found: the pairs of each left row in turn, and then the rows alone.
use Rattle.std.specs.Prelude.{ℕ, Bool, true, false, not, if◌then◌else◌, ◌++◌, List, [], map, filter, replicate, Option, None, Some}
use Rattle.cn_types.specs.declared.row.Row.{Row}
use Rattle.cn_types.specs.declared.value.Value.TheVariants.{Null}
use Rattle.plan_model.specs.declared.expression.TypedExpr.{TypedExpr}
use Rattle.plan_model.specs.declared.node.JoinKind.{JoinKind}
use Rattle.plan_model.specs.Joins.{Joining, beside, matches, pairs, left_alone, right_alone}
use Rattle.plan_model.specs.Truth.{is_true}
use Rattle.plan_model.specs.Val.{val}
use Rattle.relation_eval.specs.Firsts.{flagged}

-- so many nulls
abbrev pub null_row : ℕ → Row
null_row width = record { 0 = replicate width Null }

-- a join by this condition of rows of these widths
abbrev pub widths_joining : Option TypedExpr → ℕ → ℕ → Joining
widths_joining condition left_width right_width = record { matching = matches condition; left_nulls = null_row left_width; right_nulls = null_row right_width }

-- the condition, where there is one, is true of the row
abbrev pub is_passed_by : Option TypedExpr → Row → Bool
is_passed_by None row = true
is_passed_by (Some condition) row = is_true (val condition row)

-- a left row beside each row of the list that it matches
abbrev pub pairs_with : Option TypedExpr → Row → List Row → List Row
pairs_with condition left rows = map (beside left) (filter (matches condition left) rows)

-- the rows where they are wanted, else none
abbrev pub rows_where : Bool → List Row → List Row
rows_where wanted rows = if wanted then rows else []

-- the join has the left rows without a match too, or the right ones
abbrev pub has_left_alone : JoinKind → Bool
has_left_alone JoinKind.Left = true
has_left_alone JoinKind.Full = true
has_left_alone kind = false

abbrev pub has_right_alone : JoinKind → Bool
has_right_alone JoinKind.Right = true
has_right_alone JoinKind.Full = true
has_right_alone kind = false

-- the pairs, and behind them the left and the right rows without a match, where the join has them
abbrev pub pairs_and_alone : JoinKind → Joining → List Row → List Row → List Row
pairs_and_alone kind joining a b = pairs joining a b ++ rows_where (has_left_alone kind) (left_alone joining a b) ++ rows_where (has_right_alone kind) (right_alone joining a b)

-- the rows whose flag is not set
abbrev pub unflagged : List Bool → List Row → List Row
unflagged flags rows = flagged (map not flags) rows

-- rows beside nulls on the right, and on the left
abbrev pub before_nulls : ℕ → List Row → List Row
before_nulls width rows = map (λ row. beside row (null_row width)) rows

abbrev pub behind_nulls : ℕ → List Row → List Row
behind_nulls width rows = map (λ row. beside (null_row width) row) rows
