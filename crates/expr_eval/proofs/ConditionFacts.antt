-- Well-formed expressions and rows that fit have their dates in range.
use Rattle.std.proofs.Common.{zero, suc, List, [], ◌∷◌, arith}
use Rattle.std.specs.Prelude.{All}
use Rattle.std.specs.List.{AllByRecursion}
use Rattle.cn_types.specs.declared.value.DataType.{DataType}
use Rattle.cn_types.specs.declared.value.DataType.TheVariants as K
use Rattle.cn_types.specs.declared.value.Value.{Value}
use Rattle.cn_types.specs.declared.value.Value.TheVariants.{Date}
use Rattle.cn_types.specs.Fit.{HasType, HaveTypes, HasDateInRange}
use Rattle.plan_model.specs.declared.expression.TypedExpr.{TypedExpr}
use Rattle.plan_model.specs.declared.expression.TypedExpr.TheOpen as O
use Rattle.plan_model.specs.declared.expression.TypedExpr.TheVariants as V
use Rattle.plan_model.specs.WellFormed.{IsFormOver, IsOver}
use Rattle.plan_model.proofs.ExpressionFacts.{Forms, induct, every_part, every_here, made-Column, made-Literal, made-Call, made-Cast}
use Rattle.expr_eval.specs.ConditionLaws.{WellFormedIsInRange}
use Rattle.expr_eval.specs.Dated.{IsFormInRange, HasLiteralsInRange}

date_of_type : (kind : DataType) (value : Value) → HasType kind value → HasDateInRange value
date_of_type K.Date (Date day) h = h
date_of_type kind (Date day) h = absurd h
date_of_type kind value h = tt

dates_of_types : (kinds : List DataType) (values : List Value) → HaveTypes kinds values → All HasDateInRange values
dates_of_types kinds [] h k d within = absurd (omega arith)
dates_of_types [] (value ∷ values) h k d within = absurd h
dates_of_types (kind ∷ kinds) (value ∷ values) h zero d within = date_of_type kind value h.0
dates_of_types (kind ∷ kinds) (value ∷ values) h (suc k) d within = dates_of_types kinds values h.1 k d (omega arith)

module _ (columns : List DataType) where
  abbrev IsFine : TypedExpr → Type 0
  IsFine expr = IsOver columns expr → HasLiteralsInRange expr

  all_fine : (exprs : List TypedExpr) → AllByRecursion IsFine exprs → AllByRecursion (IsOver columns) exprs → AllByRecursion HasLiteralsInRange exprs
  all_fine [] fine over = tt
  all_fine (expr ∷ exprs) fine over = (fine.0 over.0, all_fine exprs fine.1 over.1)

  fine_forms : Forms IsFine
  unfolding HasLiteralsInRange
  fine_forms = record {
    column = λ place kind over. made-Column IsFormInRange place kind tt;
    literal = λ value kind over. made-Literal IsFormInRange value kind (date_of_type kind value (every_here (IsFormOver columns) (V.Literal value kind) (O.Literal value kind) (V.outs-Literal value kind) over));
    call_form = λ function arguments kind fine over.
        made-Call IsFormInRange function arguments kind tt
        (all_fine arguments fine (every_part (IsFormOver columns) (V.Call function arguments kind) (O.Call function arguments kind) (V.outs-Call function arguments kind) over));
    cast = λ child kind fine over.
        made-Cast IsFormInRange child kind tt (fine (every_part (IsFormOver columns) (V.Cast child kind) (O.Cast child kind) (V.outs-Cast child kind) over).0);
  }

pub well_formed_in_range : WellFormedIsInRange
well_formed_in_range = record {
  literals = λ columns expr over. induct (IsFine columns) (fine_forms columns) expr over;
  dates = λ columns row fits. dates_of_types columns row.0 fits;
}
