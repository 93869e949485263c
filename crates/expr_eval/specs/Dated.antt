-- Dates in range: of an expression's literals, and of a row.
use Rattle.std.specs.Prelude.{All}
use Rattle.cn_types.specs.declared.row.Row.{Row}
use Rattle.cn_types.specs.Fit.{HasDateInRange}
use Rattle.plan_model.specs.declared.expression.TypedExpr.{TypedExpr}
use Rattle.plan_model.specs.declared.expression.TypedExpr.TheOpen.{TypedExpr-F}
use Rattle.plan_model.specs.declared.expression.TypedExpr.TheFolds.{every-TypedExpr}

-- a literal is no date, or its date is in range
abbrev pub IsFormInRange : TypedExpr-F TypedExpr → Type 0
IsFormInRange (TypedExpr-F.Literal value kind) = HasDateInRange value
IsFormInRange other = Unit {0}

-- each literal of the expression is no date, or its date is in range
unfoldable pub HasLiteralsInRange : TypedExpr → Type 0
HasLiteralsInRange = every-TypedExpr IsFormInRange

-- each date of the row is in range
abbrev pub HasDatesInRange : Row → Type 0
HasDatesInRange row = All HasDateInRange row.0
