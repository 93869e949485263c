-- Values of well-formed expressions and calls have their types.
use Rattle.std.proofs.Common.{◌≡◌, ◌≢◌, ℕ, zero, suc, Bool, true, false, Option, None, Some, option_map, unwrap_or, List, [], ◌∷◌, map, slice_get, refl, sym, ap, ◌∙◌, subst, inl, inr}
use Rattle.std.specs.Prelude.{IfSome}
use mathlib.Core.Path.{subst₂}
use Rattle.std.specs.List.{AllByRecursion, reduce}
use Rattle.std.specs.Ordering.{ord_min, ord_max}
use Rattle.std.proofs.lemmas.List.Elements.{recursion_from_All}
use Rattle.cn_types.specs.declared.row.Row.{Row}
use Rattle.cn_types.specs.declared.value.DataType.{DataType}
use Rattle.cn_types.specs.declared.value.DataType.TheVariants as K
use Rattle.cn_types.specs.declared.value.Value.{Value}
use Rattle.cn_types.specs.declared.value.Value.TheVariants.{Null, Date}
use Rattle.cn_types.specs.Fit.{HasType, HasDateInRange, HaveTypes, FitsTypes, value_at}
use Rattle.cn_types.specs.Order.{value_cmp}
use Rattle.plan_model.specs.declared.expression.TypedExpr.{TypedExpr}
use Rattle.plan_model.specs.declared.expression.TypedExpr.TheOpen as O
use Rattle.plan_model.specs.declared.expression.TypedExpr.TheVariants as V
use Rattle.plan_model.specs.declared.function.Function.{Function}
use Rattle.plan_model.specs.Aggregates.{present, count_of, least, greatest, aggregate_of, rows_aggregate_of, called_over, unless_empty, sum_of, total}
use Rattle.plan_model.specs.Arithmetic.{wrapped_long}
use Rattle.plan_model.specs.AggregateLaws.{IsOneOf, CallsHaveTheirType}
use Rattle.plan_model.specs.Casts.{cast_to}
use Rattle.plan_model.specs.Functions.{call}
use Rattle.plan_model.specs.FunctionTypes.{aggregate_type, wider, always}
use Rattle.plan_model.specs.NodeTypes.{kind_of, kinds_of}
use Rattle.plan_model.specs.Truth.{is_present}
use Rattle.plan_model.specs.Val.{val}
use Rattle.plan_model.specs.ValueLaws.{ValuesHaveTheirType}
use Rattle.plan_model.specs.WellFormed.{IsFormOver, IsOver}
use Rattle.plan_model.proofs.AggregateFacts.{extremes}
use Rattle.plan_model.proofs.CallTypes.{HasType-Null, of_kind, call_typed}
use Rattle.plan_model.proofs.CastFacts.{casts_typed}
use Rattle.plan_model.proofs.ExpressionFacts.{Forms, induct, every_part, every_here, kind_of-Column, kind_of-Literal, kind_of-Call, kind_of-Cast}
use Rattle.plan_model.proofs.Multisets.{AllByRecursion-filter}
use Rattle.plan_model.proofs.ValueFacts.{values_of_forms}

column_typed : (kind : DataType) (columns : List DataType) (values : List Value) (place : ℕ) → slice_get columns place ≡ Some kind → HaveTypes columns values → HasType kind (unwrap_or (slice_get values place) Null)
column_typed kind [] values place e h = cc
column_typed kind (a ∷ columns) [] place e h = absurd h
column_typed kind (a ∷ columns) (value ∷ values) zero e h = of_kind a kind value e h.0
column_typed kind (a ∷ columns) (value ∷ values) (suc place) e h = column_typed kind columns values place e h.1

pub date_in_range : (kind : DataType) (value : Value) → HasType kind value → HasDateInRange value
date_in_range K.Date (Date day) h = h
date_in_range kind (Date day) h = absurd h
date_in_range kind value h = tt

module _ (columns : List DataType) where
  -- the value has the type over each row that fits
  abbrev IsTyped : TypedExpr → Type 0
  IsTyped expr = IsOver columns expr → (row : Row) → FitsTypes columns row → HasType (kind_of expr) (val expr row)

  -- a value of a form of this type
  typed_form : (expr : TypedExpr) (row : Row) (kind : DataType) (value : Value) → kind_of expr ≡ kind → val expr row ≡ value → HasType kind value → HasType (kind_of expr) (val expr row)
  typed_form expr row kind value e f h = subst₂ HasType (sym e) (sym f) h

  arguments_typed : (arguments : List TypedExpr) → AllByRecursion IsTyped arguments → AllByRecursion (IsOver columns) arguments → (row : Row) → FitsTypes columns row → HaveTypes (kinds_of arguments) (map (λ argument. val argument row) arguments)
  arguments_typed [] typed over row fits = tt
  arguments_typed (argument ∷ arguments) typed over row fits = (typed.0 over.0 row fits, arguments_typed arguments typed.1 over.1 row fits)

  forms : Forms IsTyped
  forms = record {
    column = λ place kind over row fits.
        typed_form (V.Column place kind) row kind (value_at place row) (kind_of-Column place kind) (values_of_forms.column place kind row)
        (column_typed kind columns row.0 place (every_here (IsFormOver columns) (V.Column place kind) (O.Column place kind) (V.outs-Column place kind) over) fits);
    literal = λ value kind over row fits.
        typed_form (V.Literal value kind) row kind value (kind_of-Literal value kind) (values_of_forms.literal value kind row)
        (every_here (IsFormOver columns) (V.Literal value kind) (O.Literal value kind) (V.outs-Literal value kind) over);
    call_form = λ function arguments kind typed over row fits.
        typed_form (V.Call function arguments kind) row kind (call function kind (map (λ argument. val argument row) arguments)) (kind_of-Call function arguments kind)
        (values_of_forms.call_form function arguments kind row)
        (call_typed function kind (kinds_of arguments) (map (λ argument. val argument row) arguments)
        (every_here (IsFormOver columns) (V.Call function arguments kind) (O.Call function arguments kind) (V.outs-Call function arguments kind) over)
        (arguments_typed arguments typed (every_part (IsFormOver columns) (V.Call function arguments kind) (O.Call function arguments kind) (V.outs-Call function arguments kind) over) row fits));
    cast = λ child kind typed over row fits.
        typed_form (V.Cast child kind) row kind (cast_to kind (val child row)) (kind_of-Cast child kind) (values_of_forms.cast child kind row)
        (casts_typed.typed kind (val child row) (date_in_range (kind_of child) (val child row)
        (typed (every_part (IsFormOver columns) (V.Cast child kind) (O.Cast child kind) (V.outs-Cast child kind) over).0 row fits)));
  }

pub values_typed : ValuesHaveTheirType
values_typed columns expr row over fits = induct (IsTyped columns) (forms columns) expr over row fits

-- ---- aggregate calls

one_of_all : (P : Value → Type 0) (v : Value) (values : List Value) → AllByRecursion P values → IsOneOf v values → P v
one_of_all P v [] all one = absurd one
one_of_all P v (w ∷ values) all (inl e) = subst P (sym e) all.0
one_of_all P v (w ∷ values) all (inr one) = one_of_all P v values all.1 one

module _ (P : Value → Type 0) (of_null : P Null) where
  -- what holds of null and of all values holds of the least one; the present values are given as a list of their own, so that a least value of
  -- none is null
  pub least_is : (values here : List Value) → present values ≡ here → AllByRecursion P values → P (least values)
  least_is values [] e all = subst P (sym (ap (λ (us : List Value). unwrap_or (reduce (ord_min value_cmp) us) Null) e)) of_null
  least_is values (v ∷ here) e all =
      one_of_all P (least values) (present values) (AllByRecursion-filter P is_present values all) (extremes.least_reached values (λ f. some-cons (sym e ∙ f)))
    where
      some-cons : (v ∷ here) ≢ []
      some-cons f = cc

  pub greatest_is : (values here : List Value) → present values ≡ here → AllByRecursion P values → P (greatest values)
  greatest_is values [] e all = subst P (sym (ap (λ (us : List Value). unwrap_or (reduce (ord_max value_cmp) us) Null) e)) of_null
  greatest_is values (v ∷ here) e all =
      one_of_all P (greatest values) (present values) (AllByRecursion-filter P is_present values all) (extremes.greatest_reached values (λ f. some-cons (sym e ∙ f)))
    where
      some-cons : (v ∷ here) ≢ []
      some-cons f = cc

sum_typed : (here : List Value) (sum : Value) → HasType K.Long sum → HasType K.Long (unless_empty here sum)
sum_typed [] sum h = tt
sum_typed (v ∷ here) sum h = h

long_where : (kind : DataType) (o : Option DataType) (value : Value) → always K.Long o ≡ Some kind → HasType K.Long value → HasType kind value
long_where kind None value e h = cc
long_where kind (Some found) value e h = of_kind K.Long kind value e h

aggregate_typed : (function : Function) (distinct : Bool) (kind argument : DataType) (values : List Value) → aggregate_type function distinct (Some argument) ≡ Some kind
    → AllByRecursion (HasType argument) values → HasType kind (aggregate_of function distinct values)
unfolding aggregate_of
aggregate_typed Function.Count true kind argument values e all = of_kind K.Long kind (count_of true values) e tt
aggregate_typed Function.Count false kind argument values e all = of_kind K.Long kind (count_of false values) e tt
aggregate_typed Function.Sum false kind argument values e all = long_where kind (wider argument argument) (sum_of values) e (sum_typed (present values) (wrapped_long (total (present values))) tt)
aggregate_typed Function.Min false kind argument values e all = of_kind argument kind (least values) e (least_is (HasType argument) (HasType-Null argument) values (present values) refl all)
aggregate_typed Function.Max false kind argument values e all = of_kind argument kind (greatest values) e (greatest_is (HasType argument) (HasType-Null argument) values (present values) refl all)
aggregate_typed other distinct kind argument values e all = cc

rows_aggregate_typed : (function : Function) (distinct : Bool) (kind : DataType) (rows : List Row) → aggregate_type function distinct None ≡ Some kind → HasType kind (rows_aggregate_of function rows)
unfolding rows_aggregate_of
rows_aggregate_typed Function.Count false kind rows e = of_kind K.Long kind (rows_aggregate_of Function.Count rows) e tt
rows_aggregate_typed other distinct kind rows e = cc

values_over_rows : (columns : List DataType) (argument : TypedExpr) (rows : List Row) → IsOver columns argument → AllByRecursion (FitsTypes columns) rows → AllByRecursion (HasType (kind_of argument)) (map (λ row. val argument row) rows)
values_over_rows columns argument [] over fits = tt
values_over_rows columns argument (row ∷ rows) over fits = (values_typed columns argument row over fits.0, values_over_rows columns argument rows over fits.1)

called_typed : (columns : List DataType) (function : Function) (distinct : Bool) (argument : Option TypedExpr) (kind : DataType) (rows : List Row)
    → IfSome argument (IsOver columns) → aggregate_type function distinct (option_map kind_of argument) ≡ Some kind → AllByRecursion (FitsTypes columns) rows → HasType kind (called_over function distinct argument rows)
called_typed columns function distinct None kind rows over e fits = rows_aggregate_typed function distinct kind rows e
called_typed columns function distinct (Some argument) kind rows over e fits =
    aggregate_typed function distinct kind (kind_of argument) (map (λ row. val argument row) rows) e (values_over_rows columns argument rows over fits)

pub calls_typed : CallsHaveTheirType
calls_typed columns call kind rows over fits = called_typed columns call.function call.distinct call.argument kind rows over.argument over.taken (recursion_from_All (FitsTypes columns) rows fits)
