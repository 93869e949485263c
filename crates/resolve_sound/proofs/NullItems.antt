-- Items without aggregate calls give no null but where they may.
use Rattle.std.proofs.Common.{◌≡◌, ℕ, Bool, true, false, List, [], length, refl, sym, ap, ◌∙◌, subst, Option, Some, None}
use Rattle.std.specs.Prelude.{◌||◌, not, IsTrue, nat_eq, option_map, slice_get}
use Rattle.std.proofs.lemmas.Option.{slice_get-map}
use Rattle.cn_types.specs.declared.row.Row.{Row}
use Rattle.cn_types.specs.declared.value.DataType.{DataType}
use Rattle.cn_types.specs.declared.value.Value.{Value}
use Rattle.plan_model.specs.declared.expression.TypedExpr.{TypedExpr}
use Rattle.plan_model.specs.declared.expression.TypedExpr.TheOpen as O
use Rattle.plan_model.specs.declared.expression.TypedExpr.TheVariants as T
use Rattle.plan_model.specs.declared.function.Function.{Function}
use Rattle.plan_model.specs.declared.node.AggregateCall.{AggregateCall}
use Rattle.plan_model.specs.Truth.{is_present}
use Rattle.plan_model.specs.Val.{val}
use Rattle.plan_model.specs.WellFormed.{IsFormOver, IsOver}
use Rattle.plan_model.proofs.ExpressionFacts.{Forms, every_here, induct}
use Rattle.plan_model.proofs.ValueFacts.{values_of_forms}
use Rattle.resolve_names.specs.declared.scope.ColumnOf.{ColumnOf}
use Rattle.resolve_names.specs.declared.scope.Tagged.{Tagged}
use Rattle.resolve_names.specs.Checks.{Checked, ◌>>=◌, or_refused}
use Rattle.resolve_functions.specs.Arguments.{untyped}
use Rattle.resolve_expressions.specs.Items.{column_is_nullable, form_is_nullable, is_nullable}
use Rattle.resolve_expressions.specs.Outputs.{value_of}
use Rattle.resolve_expressions.specs.Stars.{column_item}
use Rattle.resolve_expressions.specs.Typings.{typed_over}
use Rattle.resolve_expressions.proofs.TypedFacts.{values_are_well_formed}
use Rattle.resolve_sound.specs.Sound.{FitsNulls, flags, kinds}
use Rattle.resolve_sound.proofs.Chains.{then_holds}
use Rattle.resolve_sound.proofs.NullFacts.{Gives, May, column_gives, column_may}
use Rattle.resolve_sound.proofs.PlainItems.{TypedHold}
use Rattle.resolve_sound.proofs.Places.{OfEach}

-- a constant that is never null is there
pub literal_may : (value : Value) → May (not (is_present value)) value
literal_may value = by (is_present value)
  where
    by : (b : Bool) → IsTrue (not b || b)
    by true = refl
    by false = refl

-- columns as they are
pub columns_give : {I : Type 0} (columns : List (ColumnOf I)) → OfEach columns (Gives columns) column_item
columns_give columns front c rest whole = subst (λ (cs : List (ColumnOf _)). Gives cs (column_item (length front) c)) whole
    (column_gives front c rest)

-- ---- each form says whether it may be null

module _ {I : Type 0} (columns : List (ColumnOf I)) (calls : List AggregateCall) where
  pub null_Column : (place : ℕ) (kind : DataType) →
      is_nullable columns calls (T.Column place kind) ≡ column_is_nullable columns calls place (slice_get columns place)
  unfolding is_nullable
  null_Column place kind = ap (form_is_nullable columns calls) (T.outs-Column place kind)

  pub null_Literal : (value : Value) (kind : DataType) → is_nullable columns calls (T.Literal value kind) ≡ not (is_present value)
  unfolding is_nullable
  null_Literal value kind = ap (form_is_nullable columns calls) (T.outs-Literal value kind)

  pub null_Call : (function : Function) (arguments : List TypedExpr) (kind : DataType) →
      is_nullable columns calls (T.Call function arguments kind) ≡ true
  unfolding is_nullable
  null_Call function arguments kind = ap (form_is_nullable columns calls) (T.outs-Call function arguments kind)

  pub null_Cast : (child : TypedExpr) (kind : DataType) → is_nullable columns calls (T.Cast child kind) ≡ true
  unfolding is_nullable
  null_Cast child kind = ap (form_is_nullable columns calls) (T.outs-Cast child kind)

  -- ---- over the columns alone

  abbrev Tells : TypedExpr → Type 0
  Tells expr = IsOver (kinds columns) expr → (row : Row) → FitsNulls (flags columns) row →
      May (is_nullable columns calls expr) (val expr row)

  nowhere : (place : ℕ) (kind : DataType) → slice_get columns place ≡ None → slice_get (kinds columns) place ≡ Some kind → ⊥
  nowhere place kind none is =
      let e : ◌≡◌ {A = Option DataType} None (Some kind) = ap (option_map (λ c. c.kind)) (sym none)
      ∙ sym (slice_get-map (λ c. c.kind) columns place) ∙ is in
      cc

  column_tells : (place : ℕ) (kind : DataType) → Tells (T.Column place kind)
  column_tells place kind over row fits =
      subst (λ (b : Bool). May b (val (T.Column place kind) row)) (sym (null_Column place kind)) (by (slice_get columns place) refl)
    where
      by : (o : Option (ColumnOf I)) → slice_get columns place ≡ o →
          May (column_is_nullable columns calls place o) (val (T.Column place kind) row)
      by (Some column) is = column_may columns row place kind column is fits
      by None is = absurd (nowhere place kind is (every_here (IsFormOver (kinds columns)) (T.Column place kind) (O.Column place kind)
          (T.outs-Column place kind) over))

  telling : Forms Tells
  telling = record {
    column = column_tells;
    literal = λ value kind over row fits.
        subst (λ (b : Bool). May b (val (T.Literal value kind) row)) (sym (null_Literal value kind))
        (subst (May (not (is_present value))) (sym (values_of_forms.literal value kind row)) (literal_may value));
    call_form = λ function arguments kind all over row fits.
        subst (λ (b : Bool). May b (val (T.Call function arguments kind) row)) (sym (null_Call function arguments kind)) refl;
    cast = λ child kind h over row fits. subst (λ (b : Bool). May b (val (T.Cast child kind) row)) (sym (null_Cast child kind)) refl;
  }

  pub expr_tells : (expr : TypedExpr) → Tells expr
  expr_tells = induct Tells telling

-- ---- items

pub typed_give : (exact : Bool) (columns : List (ColumnOf ℕ)) (relations : List (Tagged ℕ)) →
    TypedHold exact columns relations (Gives columns)
unfolding value_of
typed_give exact columns relations name bare expr =
    then_holds (λ itemized. Gives columns itemized.item) (typed_over nat_eq exact columns relations expr false []) _ (λ typing is.
    then_holds (λ itemized. Gives columns itemized.item) (or_refused untyped typing.expr) _ (λ typed there_is.
    expr_tells columns typing.calls typed
    (values_are_well_formed exact columns relations expr typed
    (ap (λ (o : Checked _). o >>= λ t. or_refused untyped t.expr) is ∙ there_is))))
