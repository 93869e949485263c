-- Expressions over columns are over more columns behind them, too.
use Rattle.std.proofs.Common.{List, [], ◌∷◌, ◌++◌}
use Rattle.std.specs.List.{AllByRecursion}
use Rattle.cn_types.specs.declared.value.DataType.{DataType}
use Rattle.plan_model.specs.declared.expression.TypedExpr.{TypedExpr}
use Rattle.plan_model.specs.declared.expression.TypedExpr.TheOpen as O
use Rattle.plan_model.specs.declared.expression.TypedExpr.TheOpen.{TypedExpr-F}
use Rattle.plan_model.specs.declared.expression.TypedExpr.TheVariants as V
use Rattle.plan_model.specs.WellFormed.{IsFormOver, IsOver}
use Rattle.plan_model.proofs.ExpressionFacts.{Forms, induct, every_here, every_part, made-Call, made-Cast, made-Column, made-Literal}
use Rattle.resolve_expressions.proofs.TypedFacts.{get_more}

module _ (columns more : List DataType) where
  abbrev Before : TypedExpr-F TypedExpr → Type 0
  Before = IsFormOver columns

  abbrev After : TypedExpr-F TypedExpr → Type 0
  After = IsFormOver (columns ++ more)

  abbrev Widens : TypedExpr → Type 0
  Widens expr = IsOver columns expr → IsOver (columns ++ more) expr

  all_widen : (exprs : List TypedExpr) → AllByRecursion Widens exprs → AllByRecursion (IsOver columns) exprs →
      AllByRecursion (IsOver (columns ++ more)) exprs
  all_widen [] w h = tt
  all_widen (expr ∷ exprs) w h = (w.0 h.0, all_widen exprs w.1 h.1)

  widen_forms : Forms Widens
  widen_forms = record {
    column = λ place kind h. made-Column After place kind
        (get_more columns more place kind (every_here Before (V.Column place kind) (O.Column place kind) (V.outs-Column place kind) h));
    literal = λ value kind h. made-Literal After value kind
        (every_here Before (V.Literal value kind) (O.Literal value kind) (V.outs-Literal value kind) h);
    call_form = λ function arguments kind w h. made-Call After function arguments kind
        (every_here Before (V.Call function arguments kind) (O.Call function arguments kind) (V.outs-Call function arguments kind) h)
        (all_widen arguments w (every_part Before (V.Call function arguments kind) (O.Call function arguments kind)
        (V.outs-Call function arguments kind) h));
    cast = λ child kind w h. made-Cast After child kind
        (every_here Before (V.Cast child kind) (O.Cast child kind) (V.outs-Cast child kind) h)
        (w (every_part Before (V.Cast child kind) (O.Cast child kind) (V.outs-Cast child kind) h).0);
  }

  pub widen : (expr : TypedExpr) → Widens expr
  widen = induct Widens widen_forms
