-- How many messages are nested in the spelling of a message's fields besides its inputs: 0 where none is.
use Rattle.std.specs.Prelude.{ℕ, List, Option, Some, None, map, max}
use Rattle.expression_messages.specs.declared.expression.Expr.{Expr}
use Rattle.expression_messages.specs.Depths.{largest, expr_depth, alias_depth, sort_order_depth}
use Rattle.expression_relations.specs.declared.project.Project.{Project}
use Rattle.expression_relations.specs.declared.filter.Filter.{Filter}
use Rattle.expression_relations.specs.declared.join.Join.{Join}
use Rattle.expression_relations.specs.declared.sort.Sort.{Sort}
use Rattle.expression_relations.specs.declared.aggregate.Aggregate.{Aggregate}
use Rattle.expression_relations.specs.declared.drop_columns.DropColumns.{DropColumns}
use Rattle.expression_relations.specs.declared.with_columns.WithColumns.{WithColumns}

abbrev deepest_of : List Expr → ℕ
deepest_of exprs = largest (map expr_depth exprs)

abbrev pub condition_depth : Option Expr → ℕ
condition_depth None = 0
condition_depth (Some condition) = expr_depth condition

abbrev pub project_depth : {R : Type 0} → Project R → ℕ
project_depth project = deepest_of project.expressions

abbrev pub filter_depth : {R : Type 0} → Filter R → ℕ
filter_depth filter = expr_depth filter.condition

abbrev pub join_depth : {R : Type 0} → Join R → ℕ
join_depth join = condition_depth join.join_condition

abbrev pub sort_depth : {R : Type 0} → Sort R → ℕ
sort_depth sort = largest (map sort_order_depth sort.order)

abbrev pub aggregate_depth : {R : Type 0} → Aggregate R → ℕ
aggregate_depth aggregate = max (deepest_of aggregate.grouping_expressions) (deepest_of aggregate.aggregate_expressions)

abbrev pub drop_columns_depth : {R : Type 0} → DropColumns R → ℕ
drop_columns_depth drop = deepest_of drop.columns

abbrev pub with_columns_depth : {R : Type 0} → WithColumns R → ℕ
with_columns_depth with = largest (map alias_depth with.aliases)
