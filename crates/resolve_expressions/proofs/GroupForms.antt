-- Aggregate calls in each form of expression, and items over keys by their form.
use Rattle.std.proofs.Common.{◌≡◌, ℕ, Bool, true, false, List, [], ◌∷◌, map, length, position, refl, sym, ap, ◌∙◌, Option, Some, None}
use Rattle.std.specs.Prelude.{Ok, slice_get}
use Rattle.std.specs.List.{AllByRecursion, list_any}
use Rattle.std.specs.Prelude.{◌||◌}
use Rattle.cn_types.specs.declared.value.DataType.{DataType}
use Rattle.cn_types.specs.declared.value.Value.{Value}
use Rattle.expression_messages.specs.declared.literal.Literal.{Literal}
use Rattle.expression_messages.specs.declared.expression.UnresolvedAttribute.{UnresolvedAttribute}
use Rattle.expression_messages.specs.declared.expression.UnresolvedFunction.{UnresolvedFunction}
use Rattle.expression_messages.specs.declared.expression.UnresolvedStar.{UnresolvedStar}
use Rattle.expression_messages.specs.declared.expression.Alias.{Alias}
use Rattle.expression_messages.specs.declared.expression.Cast.{Cast}
use Rattle.expression_messages.specs.declared.expression.SortOrder.{SortOrder}
use Rattle.expression_messages.specs.declared.expression.Expr.{Expr}
use Rattle.expression_messages.specs.declared.expression.Expr.TheVariants as E
use Rattle.expression_messages.specs.declared.expression.Expr.TheOpen as F
use Rattle.expression_messages.specs.declared.expression.Expr.TheFolds.{fold-roll-Expr}
use Rattle.plan_model.specs.declared.expression.TypedExpr.{TypedExpr}
use Rattle.plan_model.specs.declared.expression.TypedExpr.TheFolds.{fold-TypedExpr, fold-roll-TypedExpr}
use Rattle.plan_model.specs.declared.expression.TypedExpr.TheOpen as O
use Rattle.plan_model.specs.declared.expression.TypedExpr.TheOpen.{TypedExpr-F}
use Rattle.plan_model.specs.declared.expression.TypedExpr.TheVariants as V
use Rattle.plan_model.specs.declared.expression.TypedExpr.TheViews.{out-TypedExpr, roll-TypedExpr}
use Rattle.plan_model.specs.declared.function.Function.{Function}
use Rattle.plan_model.specs.NodeTypes.{kind_of}
use Rattle.plan_model.proofs.ExpressionFacts.{Forms, induct}
use Rattle.resolve_names.specs.declared.scope.ColumnOf.{ColumnOf}
use Rattle.resolve_names.specs.Checks.{Checked, ◌>>=◌}
use Rattle.resolve_functions.specs.FunctionNames.{function_named}
use Rattle.resolve_expressions.specs.Grouping.{Regrouped, all_checked, by_key, call_has_aggregate, has_aggregate, has_aggregate_step, is_aggregate_name, key_or, regrouped, regrouped_step, ungrouped}

-- ---- aggregate calls

any-map : (has : Expr → Bool) (exprs : List Expr) → list_any (λ b. b) (map has exprs) ≡ list_any has exprs
any-map has [] = refl
any-map has (expr ∷ exprs) = ap (λ (b : Bool). has expr || b) (any-map has exprs)

pub aggregate-Literal : (literal : Literal) → has_aggregate (E.Literal literal) ≡ false
unfolding has_aggregate
aggregate-Literal literal = ap has_aggregate (sym (E.rolls-Literal literal)) ∙ fold-roll-Expr Bool has_aggregate_step (F.Literal literal)

pub aggregate-UnresolvedAttribute : (attribute : UnresolvedAttribute) → has_aggregate (E.UnresolvedAttribute attribute) ≡ false
unfolding has_aggregate
aggregate-UnresolvedAttribute attribute = ap has_aggregate (sym (E.rolls-UnresolvedAttribute attribute)) ∙ fold-roll-Expr Bool has_aggregate_step (F.UnresolvedAttribute attribute)

pub aggregate-UnresolvedFunction : (f : UnresolvedFunction Expr) → has_aggregate (E.UnresolvedFunction f) ≡ call_has_aggregate has_aggregate f
unfolding has_aggregate
aggregate-UnresolvedFunction f =
    ap has_aggregate (sym (E.rolls-UnresolvedFunction f)) ∙ fold-roll-Expr Bool has_aggregate_step (F.UnresolvedFunction f)
    ∙ ap (λ (b : Bool). is_aggregate_name (function_named f.function_name) || b) (any-map has_aggregate f.arguments)

pub aggregate-UnresolvedStar : (star : UnresolvedStar) → has_aggregate (E.UnresolvedStar star) ≡ false
unfolding has_aggregate
aggregate-UnresolvedStar star = ap has_aggregate (sym (E.rolls-UnresolvedStar star)) ∙ fold-roll-Expr Bool has_aggregate_step (F.UnresolvedStar star)

pub aggregate-Alias : (alias : Alias Expr) → has_aggregate (E.Alias alias) ≡ has_aggregate alias.expr
unfolding has_aggregate
aggregate-Alias alias = ap has_aggregate (sym (E.rolls-Alias alias)) ∙ fold-roll-Expr Bool has_aggregate_step (F.Alias alias)

pub aggregate-Cast : (cast : Cast Expr) → has_aggregate (E.Cast cast) ≡ has_aggregate cast.expr
unfolding has_aggregate
aggregate-Cast cast = ap has_aggregate (sym (E.rolls-Cast cast)) ∙ fold-roll-Expr Bool has_aggregate_step (F.Cast cast)

pub aggregate-SortOrder : (order : SortOrder Expr) → has_aggregate (E.SortOrder order) ≡ has_aggregate order.child
unfolding has_aggregate
aggregate-SortOrder order = ap has_aggregate (sym (E.rolls-SortOrder order)) ∙ fold-roll-Expr Bool has_aggregate_step (F.SortOrder order)

pub aggregate-Other : (number : ℕ) → has_aggregate (E.Other number) ≡ false
unfolding has_aggregate
aggregate-Other number = ap has_aggregate (sym (E.rolls-Other number)) ∙ fold-roll-Expr Bool has_aggregate_step (F.Other number)

pub ruleset aggregate_forms = (aggregate-Literal, aggregate-UnresolvedAttribute, aggregate-UnresolvedFunction, aggregate-UnresolvedStar, aggregate-Alias, aggregate-Cast, aggregate-SortOrder, aggregate-Other)

-- ---- items over keys

module _ {I : Type 0} (same : TypedExpr → TypedExpr → Bool) (columns : List (ColumnOf I)) (keys : List TypedExpr) where
  abbrev step : TypedExpr-F Regrouped → Regrouped
  step = regrouped_step same columns keys

  abbrev found : TypedExpr → Regrouped
  found = fold-TypedExpr Regrouped step

  abbrev over : TypedExpr → Checked TypedExpr
  over = regrouped same columns keys

  abbrev key_of : TypedExpr → Option ℕ
  key_of expr = position (same expr) keys

  found-Column : (place : ℕ) (kind : DataType) → found (V.Column place kind) ≡ step (O.Column place kind)
  found-Column place kind = ap found (sym (V.rolls-Column place kind)) ∙ fold-roll-TypedExpr Regrouped step (O.Column place kind)

  found-Literal : (value : Value) (kind : DataType) → found (V.Literal value kind) ≡ step (O.Literal value kind)
  found-Literal value kind = ap found (sym (V.rolls-Literal value kind)) ∙ fold-roll-TypedExpr Regrouped step (O.Literal value kind)

  found-Call : (function : Function) (arguments : List TypedExpr) (kind : DataType) →
      found (V.Call function arguments kind) ≡ step (O.Call function (map found arguments) kind)
  found-Call function arguments kind =
      ap found (sym (V.rolls-Call function arguments kind)) ∙ fold-roll-TypedExpr Regrouped step (O.Call function arguments kind)

  found-Cast : (child : TypedExpr) (kind : DataType) → found (V.Cast child kind) ≡ step (O.Cast (found child) kind)
  found-Cast child kind = ap found (sym (V.rolls-Cast child kind)) ∙ fold-roll-TypedExpr Regrouped step (O.Cast child kind)

  -- each part stands in its place
  abbrev IsWhole : TypedExpr → Type 0
  IsWhole expr = (found expr).whole ≡ expr

  wholes : (exprs : List TypedExpr) → AllByRecursion IsWhole exprs → map (λ (a : Regrouped). a.whole) (map found exprs) ≡ exprs
  wholes [] all = refl
  wholes (expr ∷ exprs) all = ap (λ (e : TypedExpr). e ∷ map (λ (a : Regrouped). a.whole) (map found exprs)) all.0 ∙ ap (λ (es : List TypedExpr). expr ∷ es) (wholes exprs all.1)

  whole_forms : Forms IsWhole
  whole_forms = record {
    column = λ place kind. ap (λ (r : Regrouped). r.whole) (found-Column place kind);
    literal = λ value kind. ap (λ (r : Regrouped). r.whole) (found-Literal value kind);
    call_form = λ function arguments kind all. ap (λ (r : Regrouped). r.whole) (found-Call function arguments kind)
        ∙ ap (λ (es : List TypedExpr). V.Call function es kind) (wholes arguments all);
    cast = λ child kind is. ap (λ (r : Regrouped). r.whole) (found-Cast child kind) ∙ ap (λ (e : TypedExpr). V.Cast e kind) is;
  }

  is_whole : (expr : TypedExpr) → IsWhole expr
  is_whole = induct IsWhole whole_forms

  all_whole : (exprs : List TypedExpr) → map (λ (a : Regrouped). a.whole) (map found exprs) ≡ exprs
  all_whole [] = refl
  all_whole (expr ∷ exprs) = ap (λ (e : TypedExpr). e ∷ map (λ (a : Regrouped). a.whole) (map found exprs)) (is_whole expr) ∙ ap (λ (es : List TypedExpr). expr ∷ es) (all_whole exprs)

  all_grouped : (exprs : List TypedExpr) → map (λ (a : Regrouped). a.grouped) (map found exprs) ≡ map over exprs
  unfolding regrouped
  all_grouped [] = refl
  all_grouped (expr ∷ exprs) = ap (λ (es : List (Checked TypedExpr)). (found expr).grouped ∷ es) (all_grouped exprs)

  -- ---- each form: the key's value, or this

  abbrev Keyed : TypedExpr → Checked TypedExpr → Type 0
  Keyed expr otherwise = over expr ≡ key_or (key_of expr) expr otherwise

  pub keyed-Column : (place : ℕ) (kind : DataType) → Keyed (V.Column place kind) (ungrouped (slice_get columns place) (length columns) (length keys) place kind)
  unfolding regrouped
  keyed-Column place kind = ap (λ (r : Regrouped). r.grouped) (found-Column place kind)

  pub keyed-Literal : (value : Value) (kind : DataType) → Keyed (V.Literal value kind) (Ok (V.Literal value kind))
  unfolding regrouped
  keyed-Literal value kind = ap (λ (r : Regrouped). r.grouped) (found-Literal value kind)

  abbrev called : Function → DataType → List (Checked TypedExpr) → Checked TypedExpr
  called function kind found = all_checked found >>= λ exprs. Ok (V.Call function exprs kind)

  pub keyed-Call : (function : Function) (arguments : List TypedExpr) (kind : DataType) →
      Keyed (V.Call function arguments kind) (called function kind (map over arguments))
  unfolding regrouped
  keyed-Call function arguments kind =
      ap (λ (r : Regrouped). r.grouped) (found-Call function arguments kind)
      ∙ ap (λ (es : List TypedExpr). key_or (key_of (V.Call function es kind)) (V.Call function es kind) (called function kind (map (λ (a : Regrouped). a.grouped) (map found arguments)))) (all_whole arguments)
      ∙ ap (λ (cs : List (Checked TypedExpr)). key_or (key_of (V.Call function arguments kind)) (V.Call function arguments kind) (called function kind cs)) (all_grouped arguments)

  abbrev cast : DataType → Checked TypedExpr → Checked TypedExpr
  cast kind child = child >>= λ expr. Ok (V.Cast expr kind)

  pub keyed-Cast : (child : TypedExpr) (kind : DataType) → Keyed (V.Cast child kind) (cast kind (over child))
  unfolding regrouped
  keyed-Cast child kind =
      ap (λ (r : Regrouped). r.grouped) (found-Cast child kind)
      ∙ ap (λ (e : TypedExpr). key_or (key_of (V.Cast e kind)) (V.Cast e kind) (cast kind (found child).grouped)) (is_whole child)

  abbrev HasForm : TypedExpr → Type 0
  HasForm expr = (otherwise : Checked TypedExpr) × Keyed expr otherwise

  has_forms : Forms HasForm
  has_forms = record {
    column = λ place kind. (_, keyed-Column place kind);
    literal = λ value kind. (_, keyed-Literal value kind);
    call_form = λ function arguments kind all. (_, keyed-Call function arguments kind);
    cast = λ child kind is. (_, keyed-Cast child kind);
  }

  -- ---- what the code does

  by_place : (o : Option ℕ) (place : ℕ) (expr : TypedExpr) (otherwise : Checked TypedExpr) → o ≡ Some place → key_or o expr otherwise ≡ Ok (V.Column place (kind_of expr))
  by_place o place expr otherwise is = ap (λ (x : Option ℕ). key_or x expr otherwise) is

  by_none : (o : Option ℕ) (expr : TypedExpr) (otherwise : Checked TypedExpr) → o ≡ None → key_or o expr otherwise ≡ otherwise
  by_none o expr otherwise is = ap (λ (x : Option ℕ). key_or x expr otherwise) is

  pub regrouped_key : (expr : TypedExpr) (place : ℕ) → key_of expr ≡ Some place → over expr ≡ Ok (V.Column place (kind_of expr))
  regrouped_key expr place is =
      let form = induct HasForm has_forms expr in
      form.1 ∙ by_place (key_of expr) place expr form.0 is

  pub regrouped-Column : (place : ℕ) (kind : DataType) → key_of (V.Column place kind) ≡ None →
      over (V.Column place kind) ≡ ungrouped (slice_get columns place) (length columns) (length keys) place kind
  regrouped-Column place kind is = keyed-Column place kind ∙ by_none (key_of (V.Column place kind)) _ _ is

  pub regrouped-Literal : (value : Value) (kind : DataType) → key_of (V.Literal value kind) ≡ None → over (V.Literal value kind) ≡ Ok (V.Literal value kind)
  regrouped-Literal value kind is = keyed-Literal value kind ∙ by_none (key_of (V.Literal value kind)) _ _ is

  pub regrouped-Call : (function : Function) (arguments : List TypedExpr) (kind : DataType) → key_of (V.Call function arguments kind) ≡ None →
      over (V.Call function arguments kind) ≡ called function kind (map over arguments)
  regrouped-Call function arguments kind is = keyed-Call function arguments kind ∙ by_none (key_of (V.Call function arguments kind)) _ _ is

  pub regrouped-Cast : (child : TypedExpr) (kind : DataType) → key_of (V.Cast child kind) ≡ None → over (V.Cast child kind) ≡ cast kind (over child)
  regrouped-Cast child kind is = keyed-Cast child kind ∙ by_none (key_of (V.Cast child kind)) _ _ is

pub ruleset regrouped_forms = (regrouped_key, regrouped-Column, regrouped-Literal, regrouped-Call, regrouped-Cast)
