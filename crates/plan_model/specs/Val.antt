-- The value of an expression over a row.
use Rattle.std.specs.Prelude.{map}
use Rattle.cn_types.specs.declared.row.Row.{Row}
use Rattle.cn_types.specs.declared.value.Value.{Value}
use Rattle.cn_types.specs.Fit.{value_at}
use Rattle.plan_model.specs.declared.expression.TypedExpr.{TypedExpr}
use Rattle.plan_model.specs.declared.expression.TypedExpr.TheOpen.{TypedExpr-F}
use Rattle.plan_model.specs.declared.expression.TypedExpr.TheFolds.{fold-TypedExpr}
use Rattle.plan_model.specs.Casts.{cast_to}
use Rattle.plan_model.specs.Functions.{call}

-- what an expression means: a value for each row. A fault, or a mode of evaluation, would stand here
abbrev pub Meaning : Type 0
Meaning = Row → Value

-- one expression, with the meaning of each child in its place
abbrev pub val_step : TypedExpr-F Meaning → Meaning
val_step (TypedExpr-F.Column place kind) row = value_at place row
val_step (TypedExpr-F.Literal value kind) row = value
val_step (TypedExpr-F.Call function arguments kind) row = call function kind (map (λ argument. argument row) arguments)
val_step (TypedExpr-F.Cast child kind) row = cast_to kind (child row)

-- the value of an expression over a row
abbrev pub val : TypedExpr → Row → Value
val = fold-TypedExpr Meaning val_step
