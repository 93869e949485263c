-- That no expression of a message is outside the profile, that the numbers in a message have the bits of their types, and that its texts are UTF-8.
use Rattle.std.specs.Prelude.{Bool, true, ◌&&◌, IfSome, FitsSigned, IsUtf8, Option, Some, None}
use Rattle.std.specs.Int.{w32}
use Rattle.std.specs.List.{list_all, AllByRecursion}
use Rattle.expression_messages.specs.declared.expression.Expr.{Expr}
use Rattle.expression_messages.specs.Known.{is_known_expr, HasExprBits, HasAliasBits, HasSortOrderBits}
use Rattle.expression_relations.specs.declared.project.Project.{Project}
use Rattle.expression_relations.specs.declared.filter.Filter.{Filter}
use Rattle.expression_relations.specs.declared.join.Join.{Join}
use Rattle.expression_relations.specs.declared.sort.Sort.{Sort}
use Rattle.expression_relations.specs.declared.aggregate.Aggregate.{Aggregate}
use Rattle.expression_relations.specs.declared.drop_columns.DropColumns.{DropColumns}
use Rattle.expression_relations.specs.declared.with_columns.WithColumns.{WithColumns}

-- ---- what has a spelling

abbrev pub is_known_condition : Option Expr → Bool
is_known_condition None = true
is_known_condition (Some condition) = is_known_expr condition

abbrev pub is_known_project : {R : Type 0} → Project R → Bool
is_known_project project = list_all is_known_expr project.expressions

abbrev pub is_known_filter : {R : Type 0} → Filter R → Bool
is_known_filter filter = is_known_expr filter.condition

abbrev pub is_known_join : {R : Type 0} → Join R → Bool
is_known_join join = is_known_condition join.join_condition

abbrev pub is_known_sort : {R : Type 0} → Sort R → Bool
is_known_sort sort = list_all (λ order. is_known_expr order.child) sort.order

abbrev pub is_known_aggregate : {R : Type 0} → Aggregate R → Bool
is_known_aggregate aggregate = list_all is_known_expr aggregate.grouping_expressions && list_all is_known_expr aggregate.aggregate_expressions

abbrev pub is_known_drop_columns : {R : Type 0} → DropColumns R → Bool
is_known_drop_columns drop = list_all is_known_expr drop.columns

abbrev pub is_known_with_columns : {R : Type 0} → WithColumns R → Bool
is_known_with_columns with = list_all (λ alias. is_known_expr alias.expr) with.aliases

-- ---- numbers have the bits of their types, and texts are UTF-8

abbrev pub HasProjectBits : {R : Type 0} → Project R → Type 0
HasProjectBits project = AllByRecursion HasExprBits project.expressions

abbrev pub HasFilterBits : {R : Type 0} → Filter R → Type 0
HasFilterBits filter = HasExprBits filter.condition

pub record HasJoinBits {R : Type 0} (join : Join R) : Type 0 where
  pub join_condition : IfSome join.join_condition HasExprBits
  pub join_type : FitsSigned w32 join.join_type
  pub using_columns : AllByRecursion IsUtf8 join.using_columns

abbrev pub HasSortBits : {R : Type 0} → Sort R → Type 0
HasSortBits sort = AllByRecursion HasSortOrderBits sort.order

pub record HasAggregateBits {R : Type 0} (aggregate : Aggregate R) : Type 0 where
  pub group_type : FitsSigned w32 aggregate.group_type
  pub grouping_expressions : AllByRecursion HasExprBits aggregate.grouping_expressions
  pub aggregate_expressions : AllByRecursion HasExprBits aggregate.aggregate_expressions

pub record HasDropColumnsBits {R : Type 0} (drop : DropColumns R) : Type 0 where
  pub columns : AllByRecursion HasExprBits drop.columns
  pub column_names : AllByRecursion IsUtf8 drop.column_names

abbrev pub HasWithColumnsBits : {R : Type 0} → WithColumns R → Type 0
HasWithColumnsBits with = AllByRecursion HasAliasBits with.aliases
