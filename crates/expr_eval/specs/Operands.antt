-- What an operand is: a value that a row or an expression lends, or one that was made; and the values of several expressions over a row.
use Rattle.std.specs.Prelude.{List, map}
use Rattle.cn_types.specs.declared.row.Row.{Row}
use Rattle.cn_types.specs.declared.value.Value.{Value}
use Rattle.plan_model.specs.declared.expression.TypedExpr.{TypedExpr}
use Rattle.plan_model.specs.Val.{val}
use Rattle.expr_eval.specs.declared.operand.Operand.{Operand}
use Rattle.expr_eval.specs.declared.operand.Operand.TheVariants.{Lent, Made}

abbrev pub operand_value : Operand → Value
operand_value (Lent value) = value.now
operand_value (Made value) = value

-- the values of expressions over a row, in order
abbrev pub vals : List TypedExpr → Row → List Value
vals exprs row = map (λ expr. val expr row) exprs
