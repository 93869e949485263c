-- Expressions under what their names can mean, where columns are told apart by numbers.
use Rattle.std.specs.Prelude.{ℕ, nat_eq, Bool, List, map, length, Option, Some, None}
use Rattle.expression_messages.specs.declared.expression.Alias.{Alias}
use Rattle.expression_messages.specs.declared.expression.Cast.{Cast}
use Rattle.expression_messages.specs.declared.expression.SortOrder.{SortOrder}
use Rattle.expression_messages.specs.declared.expression.UnresolvedAttribute.{UnresolvedAttribute}
use Rattle.expression_messages.specs.declared.expression.UnresolvedFunction.{UnresolvedFunction}
use Rattle.expression_messages.specs.declared.expression.UnresolvedStar.{UnresolvedStar}
use Rattle.expression_messages.specs.declared.expression.Expr.{Expr}
use Rattle.plan_model.specs.declared.expression.TypedExpr.{TypedExpr}
use Rattle.resolve_types.specs.Leaves.{typed_attribute}
use Rattle.plan_model.specs.declared.node.AggregateCall.{AggregateCall}
use Rattle.plan_model.specs.declared.node.SortKey.{SortKey}
use Rattle.resolve_names.specs.Checks.{Checked}
use Rattle.resolve_expressions.specs.declared.item.Item.{Item}
use Rattle.resolve_expressions.specs.declared.names.Names.{Names}
use Rattle.resolve_expressions.specs.declared.titles.Reading.{Reading}
use Rattle.resolve_expressions.specs.Items.{Itemized, attribute_title, either_title, item_by, item_of, typed_item}
use Rattle.resolve_expressions.specs.Outputs.{Grouped, added_item, added_items, condition_of, grouped, grouped_by, grouped_item, grouped_star, key_items, plain_item, projected, projected_by, sort_key_of, sort_keys_of, value_of}
use Rattle.resolve_expressions.specs.Stars.{star_items}
use Rattle.resolve_expressions.specs.Titles.{title}
use Rattle.resolve_expressions.specs.Typings.{Arguments, Standing, Typing, arguments_typed, cast_typed, function_typed, some_typed, standing, typed_over}

-- how many columns there are
abbrev pub width : Names → ℕ
width names = length names.columns.now

abbrev pub standing_in : Names → Expr → Standing
standing_in names = standing nat_eq names.case_sensitive names.columns.now names.relations.now

abbrev pub typed_in : Names → Expr → Bool → List AggregateCall → Checked Typing
typed_in names = typed_over nat_eq names.case_sensitive names.columns.now names.relations.now

abbrev pub attribute_in : Names → UnresolvedAttribute → Checked (Option TypedExpr)
attribute_in names attribute = some_typed (typed_attribute nat_eq names.case_sensitive names.columns.now names.relations.now attribute)

abbrev pub standings_in : Names → List Expr → List Standing
standings_in names exprs = map (standing_in names) exprs

abbrev pub arguments_in : Names → Bool → List Expr → List AggregateCall → Checked Arguments
arguments_in names allowed exprs calls = arguments_typed allowed (standings_in names exprs) calls

-- a function call, and a cast, over these columns
abbrev pub call_standing : Names → UnresolvedFunction Expr → UnresolvedFunction Standing
call_standing names f = record { function_name = f.function_name; arguments = standings_in names f.arguments; is_distinct = f.is_distinct }

abbrev pub cast_standing : Names → Cast Expr → Cast Standing
cast_standing names cast = record { expr = standing_in names cast.expr; target = cast.target }

abbrev pub function_in : Names → UnresolvedFunction Expr → Bool → List AggregateCall → Checked Typing
function_in names f allowed calls = function_typed (width names) (call_standing names f) allowed calls

abbrev pub cast_in : Names → Cast Expr → Bool → List AggregateCall → Checked Typing
cast_in names cast allowed calls = cast_typed (cast_standing names cast) allowed calls

-- ---- columns

abbrev pub star_in : Names → UnresolvedStar → Checked (List Item)
star_in names star = star_items names.case_sensitive names.columns.now star.unparsed_target

abbrev pub title_in : Names → Expr → List ℕ
title_in names = title (attribute_title nat_eq names.case_sensitive names.columns.now names.relations.now)

abbrev pub attribute_title_in : Names → UnresolvedAttribute → List ℕ
attribute_title_in names = attribute_title nat_eq names.case_sensitive names.columns.now names.relations.now

abbrev pub column_title : Reading → UnresolvedAttribute → List ℕ
column_title (Reading.Names names) = attribute_title_in names
column_title (Reading.EitherCase columns) = either_title columns.now

abbrev pub title_by : Reading → Expr → List ℕ
title_by reading = title (column_title reading)

abbrev pub titles_by : Reading → List Expr → List (List ℕ)
titles_by reading exprs = map (title_by reading) exprs

abbrev pub call_titled : Reading → UnresolvedFunction Expr → UnresolvedFunction (List ℕ)
call_titled reading f = record { function_name = f.function_name; arguments = titles_by reading f.arguments; is_distinct = f.is_distinct }

abbrev pub typed_item_in : Names → List ℕ → Bool → Expr → Bool → List AggregateCall → Checked Itemized
typed_item_in names = typed_item nat_eq names.case_sensitive names.columns.now names.relations.now

abbrev pub item_by_in : Names → Option (Alias Expr) → Expr → Bool → List AggregateCall → Checked Itemized
item_by_in names = item_by nat_eq names.case_sensitive names.columns.now names.relations.now

abbrev pub alias_in : Names → Alias Expr → Bool → List AggregateCall → Checked Itemized
alias_in names alias = item_by_in names (Some alias) alias.expr

abbrev pub titled_in : Names → Expr → Bool → List AggregateCall → Checked Itemized
titled_in names = item_by_in names None

abbrev pub item_in : Names → Expr → Bool → List AggregateCall → Checked Itemized
item_in names = item_of nat_eq names.case_sensitive names.columns.now names.relations.now

-- ---- what relations take

abbrev pub value_in : Names → Expr → Checked TypedExpr
value_in names = value_of nat_eq names.case_sensitive names.columns.now names.relations.now

abbrev pub condition_in : Names → List ℕ → Expr → Checked TypedExpr
condition_in names = condition_of nat_eq names.case_sensitive names.columns.now names.relations.now

abbrev pub sort_key_in : Names → SortOrder Expr → Checked SortKey
sort_key_in names = sort_key_of nat_eq names.case_sensitive names.columns.now names.relations.now

abbrev pub sort_keys_in : Names → List (SortOrder Expr) → Checked (List SortKey)
sort_keys_in names = sort_keys_of nat_eq names.case_sensitive names.columns.now names.relations.now

abbrev pub plain_item_in : Names → Expr → Checked Item
plain_item_in names = plain_item nat_eq names.case_sensitive names.columns.now names.relations.now

abbrev pub key_items_in : Names → List Expr → Checked (List Item)
key_items_in names = key_items nat_eq names.case_sensitive names.columns.now names.relations.now

abbrev pub added_item_in : Names → Alias Expr → Checked Item
added_item_in names = added_item nat_eq names.case_sensitive names.columns.now names.relations.now

abbrev pub added_items_in : Names → List (Alias Expr) → Checked (List Item)
added_items_in names = added_items nat_eq names.case_sensitive names.columns.now names.relations.now

abbrev pub projected_by_in : Names → Option UnresolvedStar → Expr → Checked (List Item)
projected_by_in names = projected_by nat_eq names.case_sensitive names.columns.now names.relations.now

abbrev pub projected_in : Names → List Expr → Checked (List Item)
projected_in names = projected nat_eq names.case_sensitive names.columns.now names.relations.now

abbrev pub grouped_item_in : Names → List TypedExpr → Expr → List AggregateCall → Checked Grouped
grouped_item_in names = grouped_item nat_eq names.case_sensitive names.columns.now names.relations.now

abbrev pub grouped_star_in : Names → List TypedExpr → UnresolvedStar → List AggregateCall → Checked Grouped
grouped_star_in names = grouped_star nat_eq names.case_sensitive names.columns.now names.relations.now

abbrev pub grouped_by_in : Names → Option UnresolvedStar → List TypedExpr → Expr → List AggregateCall → Checked Grouped
grouped_by_in names = grouped_by nat_eq names.case_sensitive names.columns.now names.relations.now

abbrev pub grouped_in : Names → Bool → List TypedExpr → List Expr → List AggregateCall → Checked Grouped
grouped_in names = grouped nat_eq names.case_sensitive names.columns.now names.relations.now
