-- Which expressions and rows meet what the evaluation asks for.
use Rattle.std.specs.Prelude.{List}
use Rattle.cn_types.specs.declared.row.Row.{Row}
use Rattle.cn_types.specs.declared.value.DataType.{DataType}
use Rattle.cn_types.specs.Fit.{FitsTypes}
use Rattle.plan_model.specs.declared.expression.TypedExpr.{TypedExpr}
use Rattle.plan_model.specs.WellFormed.{IsOver}
use Rattle.expr_eval.specs.Dated.{HasLiteralsInRange, HasDatesInRange}

-- the dates of a well-formed expression's literals are in range, and so are those of a row that fits
pub record WellFormedIsInRange : Type 0 where
  pub literals : (columns : List DataType) (expr : TypedExpr) → IsOver columns expr → HasLiteralsInRange expr
  pub dates : (columns : List DataType) (row : Row) → FitsTypes columns row → HasDatesInRange row
