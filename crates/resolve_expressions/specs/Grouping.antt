-- Items of an aggregate: over its keys' values and, behind them, its calls' values.
use Rattle.std.specs.Prelude.{ℕ, ◌+◌, ◌-◌, ◌||◌, Bool, false, List, [], ◌∷◌, map, length, slice_get, position, Option, Some, None, Ok}
use Rattle.std.specs.List.{list_any}
use Rattle.cn_types.specs.declared.value.DataType.{DataType}
use Rattle.expression_messages.specs.declared.expression.UnresolvedFunction.{UnresolvedFunction}
use Rattle.expression_messages.specs.declared.expression.Expr.{Expr}
use Rattle.expression_messages.specs.declared.expression.Expr.TheOpen.{Expr-F}
use Rattle.expression_messages.specs.declared.expression.Expr.TheFolds.{fold-Expr}
use Rattle.plan_model.specs.declared.expression.TypedExpr.{TypedExpr}
use Rattle.plan_model.specs.declared.expression.TypedExpr.TheOpen.{TypedExpr-F}
use Rattle.plan_model.specs.declared.expression.TypedExpr.TheVariants as typed
use Rattle.plan_model.specs.declared.expression.TypedExpr.TheFolds.{fold-TypedExpr}
use Rattle.plan_model.specs.declared.function.Function.{Function}
use Rattle.plan_model.specs.NodeTypes.{kind_of}
use Rattle.resolve_names.specs.declared.error.ErrorName.TheVariants.{MissingAggregation}
use Rattle.resolve_names.specs.declared.scope.ColumnOf.{ColumnOf}
use Rattle.resolve_names.specs.Checks.{Checked, ◌>>=◌, refused}
use Rattle.resolve_names.specs.Refusals.{refusal}
use Rattle.resolve_functions.specs.Arguments.{is_aggregate}
use Rattle.resolve_functions.specs.FunctionNames.{function_named}
use Rattle.resolve_expressions.specs.declared.item.Item.{Item}

-- ---- whether an aggregate function is called anywhere in an expression

abbrev pub is_aggregate_name : Option Function → Bool
is_aggregate_name (Some function) = is_aggregate function
is_aggregate_name None = false

-- a call is of an aggregate function, or one of its arguments has such a call
abbrev pub call_has_aggregate : {E : Type 0} → (E → Bool) → UnresolvedFunction E → Bool
call_has_aggregate has f = is_aggregate_name (function_named f.function_name) || list_any has f.arguments

abbrev pub has_aggregate_step : Expr-F Bool → Bool
has_aggregate_step (Expr-F.Literal literal) = false
has_aggregate_step (Expr-F.UnresolvedAttribute attribute) = false
has_aggregate_step (Expr-F.UnresolvedFunction f) = call_has_aggregate (λ has. has) f
has_aggregate_step (Expr-F.UnresolvedStar star) = false
has_aggregate_step (Expr-F.Alias alias) = alias.expr
has_aggregate_step (Expr-F.Cast cast) = cast.expr
has_aggregate_step (Expr-F.SortOrder order) = order.child
has_aggregate_step (Expr-F.Other number) = false

unfoldable pub has_aggregate : Expr → Bool
has_aggregate = fold-Expr Bool has_aggregate_step

-- ---- a part that is the same as a key is the key's value, and a call's value stands behind the keys'; no other column is left

-- a part of an item, and what it is over the keys' and the calls' values
pub record Regrouped : Type 0 where
  pub whole : TypedExpr
  pub grouped : Checked TypedExpr

abbrev pub all_checked : {X : Type 0} → List (Checked X) → Checked (List X)
all_checked [] = Ok []
all_checked (first ∷ rest) = first >>= λ x. all_checked rest >>= λ xs. Ok (x ∷ xs)

abbrev pub key_or : Option ℕ → TypedExpr → Checked TypedExpr → Checked TypedExpr
key_or (Some place) whole otherwise = Ok (typed.Column place (kind_of whole))
key_or None whole otherwise = otherwise

-- a column of the input that stands in no key is missing there; a call's value is behind the keys
abbrev pub ungrouped : {I : Type 0} → Option (ColumnOf I) → ℕ → ℕ → ℕ → DataType → Checked TypedExpr
ungrouped (Some column) width keys place kind = refused (refusal MissingAggregation column.name)
ungrouped None width keys place kind = Ok (typed.Column (keys + (place - width)) kind)

module _ {I : Type 0} (same_expr : TypedExpr → TypedExpr → Bool) (columns : List (ColumnOf I)) (keys : List TypedExpr) where
  abbrev pub by_key : TypedExpr → Checked TypedExpr → Regrouped
  by_key whole otherwise = record { whole = whole; grouped = key_or (position (same_expr whole) keys) whole otherwise }

  abbrev pub regrouped_step : TypedExpr-F Regrouped → Regrouped
  regrouped_step (TypedExpr-F.Column place kind) =
      by_key (typed.Column place kind) (ungrouped (slice_get columns place) (length columns) (length keys) place kind)
  regrouped_step (TypedExpr-F.Literal value kind) = by_key (typed.Literal value kind) (Ok (typed.Literal value kind))
  regrouped_step (TypedExpr-F.Call function arguments kind) =
      by_key (typed.Call function (map (λ a. a.whole) arguments) kind)
      (all_checked (map (λ a. a.grouped) arguments) >>= λ exprs. Ok (typed.Call function exprs kind))
  regrouped_step (TypedExpr-F.Cast child kind) = by_key (typed.Cast child.whole kind) (child.grouped >>= λ expr. Ok (typed.Cast expr kind))

  unfoldable pub regrouped : TypedExpr → Checked TypedExpr
  regrouped expr = (fold-TypedExpr Regrouped regrouped_step expr).grouped

  -- the item over these values; it keeps its name, its column and whether it may be null
  abbrev pub regrouped_item : Item → Checked Item
  regrouped_item item = regrouped item.expr >>= λ expr. Ok (record { name = item.name; expr = expr; source = item.source; nullable = item.nullable })
