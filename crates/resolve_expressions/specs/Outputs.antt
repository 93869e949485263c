-- What relations take of expressions: the columns of a projection and of an aggregate, conditions, and keys of a sort.
use Rattle.std.specs.Prelude.{ℕ, ℤ, pos, Bool, true, false, if◌then◌else◌, List, [], ◌∷◌, ◌++◌, map, Option, Some, None, Ok, codes}
use Rattle.std.specs.Ordering.{int_eq}
use Rattle.cn_types.specs.declared.value.DataType.{DataType}
use Rattle.expression_messages.specs.declared.expression.Alias.{Alias}
use Rattle.expression_messages.specs.declared.expression.SortOrder.{SortOrder}
use Rattle.expression_messages.specs.declared.expression.UnresolvedStar.{UnresolvedStar}
use Rattle.expression_messages.specs.declared.expression.Expr.{Expr}
use Rattle.expression_messages.specs.declared.expression.Expr.TheOpen.{Expr-F}
use Rattle.expression_messages.specs.declared.expression.Expr.TheViews.{out-Expr}
use Rattle.plan_model.specs.declared.expression.TypedExpr.{TypedExpr}
use Rattle.plan_model.specs.declared.node.AggregateCall.{AggregateCall}
use Rattle.plan_model.specs.declared.node.SortKey.{SortKey}
use Rattle.plan_model.specs.FunctionTypes.{same_kind}
use Rattle.plan_model.specs.NodeTypes.{kind_of}
use Rattle.resolve_names.specs.declared.scope.ColumnOf.{ColumnOf}
use Rattle.resolve_names.specs.declared.scope.Tagged.{Tagged}
use Rattle.resolve_names.specs.Checks.{Checked, ◌>>=◌, or_refused, refused}
use Rattle.resolve_functions.specs.Arguments.{mismatch, untyped}
use Rattle.resolve_expressions.specs.declared.item.Item.{Item}
use Rattle.resolve_expressions.specs.Grouping.{all_checked, regrouped_item}
use Rattle.resolve_expressions.specs.Items.{Itemized, item_by, item_of}
use Rattle.resolve_expressions.specs.Same.{same_expr}
use Rattle.resolve_expressions.specs.Stars.{star_items}
use Rattle.resolve_expressions.specs.Typings.{typed_over}

-- the star that an expression is
abbrev pub star_in : Expr-F Expr → Option UnresolvedStar
star_in (Expr-F.UnresolvedStar star) = Some star
star_in form = None

unfoldable pub star_of : Expr → Option UnresolvedStar
star_of expr = star_in (out-Expr expr)

-- the items of an aggregate, and its calls in order
pub record Grouped : Type 0 where
  pub items : List Item
  pub calls : List AggregateCall

abbrev pub group : List Item → List AggregateCall → Grouped
group items calls = record { items = items; calls = calls }

-- items over the values of these keys
abbrev pub regrouped_items : {I : Type 0} → List (ColumnOf I) → List TypedExpr → List Item → Checked (List Item)
regrouped_items columns keys items = all_checked (map (regrouped_item same_expr columns keys) items)

-- the star that an expression is, where stars have a meaning
abbrev pub star_meant : Bool → Expr → Option UnresolvedStar
star_meant stars expr = if stars then star_of expr else None

-- a condition is boolean; this is told where it is not
abbrev pub boolean_only : List ℕ → TypedExpr → Checked TypedExpr
boolean_only what expr = if same_kind DataType.Boolean (kind_of expr) then Ok expr else refused (mismatch what)

-- ascending keys have nulls first and descending ones last, unless it is said
abbrev pub is_descending : ℤ → Bool
is_descending direction = int_eq direction (pos 2)

abbrev pub has_nulls_last : ℤ → ℤ → Bool
has_nulls_last direction ordering = if int_eq ordering (pos 1) then false else (if int_eq ordering (pos 2) then true else is_descending direction)

module _ {I : Type 0} (same : I → I → Bool) (exact : Bool) (columns : List (ColumnOf I)) (relations : List (Tagged I)) where
  -- an expression that has a type and no aggregate call
  unfoldable pub value_of : Expr → Checked TypedExpr
  value_of expr = do
    typing ← typed_over same exact columns relations expr false []
    or_refused untyped typing.expr

  unfoldable pub condition_of : List ℕ → Expr → Checked TypedExpr
  condition_of what expr = value_of expr >>= boolean_only what

  unfoldable pub sort_key_of : SortOrder Expr → Checked SortKey
  sort_key_of order = do
    expr ← value_of order.child
    Ok (record { expr = expr; descending = is_descending order.direction; nulls_last = has_nulls_last order.direction order.null_ordering })

  unfoldable pub sort_keys_of : List (SortOrder Expr) → Checked (List SortKey)
  sort_keys_of orders = all_checked (map sort_key_of orders)

  -- an item without aggregate calls
  unfoldable pub plain_item : Expr → Checked Item
  plain_item expr = item_of same exact columns relations expr false [] >>= λ itemized. Ok itemized.item

  -- the expressions that an aggregate groups by
  unfoldable pub key_items : List Expr → Checked (List Item)
  key_items exprs = all_checked (map plain_item exprs)

  -- an alias among the columns that are added
  unfoldable pub added_item : Alias Expr → Checked Item
  added_item alias = item_by same exact columns relations (Some alias) alias.expr false [] >>= λ itemized. Ok itemized.item

  unfoldable pub added_items : List (Alias Expr) → Checked (List Item)
  added_items aliases = all_checked (map added_item aliases)

  -- ---- a projection without aggregate calls

  abbrev pub projected_by : Option UnresolvedStar → Expr → Checked (List Item)
  projected_by (Some star) expr = star_items exact columns star.unparsed_target
  projected_by None expr = plain_item expr >>= λ item. Ok (item ∷ [])

  unfoldable pub projected : List Expr → Checked (List Item)
  projected [] = Ok []
  projected (expr ∷ exprs) = do
    first ← projected_by (star_of expr) expr
    rest ← projected exprs
    Ok (first ++ rest)

  -- ---- items of an aggregate with these keys

  unfoldable pub grouped_item : List TypedExpr → Expr → List AggregateCall → Checked Grouped
  grouped_item keys expr calls = do
    itemized ← item_of same exact columns relations expr true calls
    items ← regrouped_items columns keys (itemized.item ∷ [])
    Ok (group items itemized.calls)

  -- the columns of a star
  unfoldable pub grouped_star : List TypedExpr → UnresolvedStar → List AggregateCall → Checked Grouped
  grouped_star keys star calls = do
    columns_meant ← star_items exact columns star.unparsed_target
    items ← regrouped_items columns keys columns_meant
    Ok (group items calls)

  abbrev pub grouped_by : Option UnresolvedStar → List TypedExpr → Expr → List AggregateCall → Checked Grouped
  grouped_by (Some star) keys expr calls = grouped_star keys star calls
  grouped_by None keys expr calls = grouped_item keys expr calls

  -- a star is one where `stars` says so, of a projection with an aggregate call
  unfoldable pub grouped : Bool → List TypedExpr → List Expr → List AggregateCall → Checked Grouped
  grouped stars keys [] calls = Ok (group [] calls)
  grouped stars keys (expr ∷ exprs) calls = do
    first ← grouped_by (star_meant stars expr) keys expr calls
    rest ← grouped stars keys exprs first.calls
    Ok (group (first.items ++ rest.items) rest.calls)
