-- Aggregate functions, after Spark SQL's, over the values, or the rows, of one group. They pass over nulls.
use Rattle.std.specs.Prelude.{ℤ, pos, ◌+ℤ◌, Bool, Option, None, Some, List, [], ◌∷◌, length, map, filter, unwrap_or, if◌then◌else◌}
use Rattle.std.specs.List.{list_any, reduce}
use Rattle.std.specs.Ordering.{ord_min, ord_max}
use Rattle.cn_types.specs.declared.row.Row.{Row}
use Rattle.cn_types.specs.declared.value.Value.{Value}
use Rattle.cn_types.specs.declared.value.Value.TheVariants.{Null, Long}
use Rattle.cn_types.specs.Order.{value_cmp, value_eq}
use Rattle.plan_model.specs.declared.expression.TypedExpr.{TypedExpr}
use Rattle.plan_model.specs.declared.function.Function.{Function}
use Rattle.plan_model.specs.declared.node.AggregateCall.{AggregateCall}
use Rattle.plan_model.specs.Arithmetic.{number, wrapped_long}
use Rattle.plan_model.specs.Truth.{is_present}
use Rattle.plan_model.specs.Val.{val}

-- the values that are not null
abbrev pub present : List Value → List Value
present values = filter is_present values

-- each value once
abbrev pub different : List Value → List Value
different [] = []
different (value ∷ values) = if list_any (value_eq value) values then different values else value ∷ different values

-- the numbers added up, exactly
abbrev pub total : List Value → ℤ
total [] = pos 0
total (value ∷ values) = unwrap_or (number value) (pos 0) +ℤ total values

-- the value, unless the list is empty
abbrev pub unless_empty : List Value → Value → Value
unless_empty [] value = Null
unless_empty (first ∷ rest) value = value

-- `count`: how many values are not null, equal ones once where it is distinct
abbrev pub count_of : Bool → List Value → Value
count_of distinct values = Long (pos (length (if distinct then different (present values) else present values)))

-- `sum`: the sum of the values that are not null, wrapped to a long; null over no value
abbrev pub sum_of : List Value → Value
sum_of values = unless_empty (present values) (wrapped_long (total (present values)))

-- `min` and `max`: the least and the greatest value that is not null; null over no value
abbrev pub least : List Value → Value
least values = unwrap_or (reduce (ord_min value_cmp) (present values)) Null

abbrev pub greatest : List Value → Value
greatest values = unwrap_or (reduce (ord_max value_cmp) (present values)) Null

-- the value of an aggregate function over values; of a function that is no aggregate it means nothing
unfoldable pub aggregate_of : Function → Bool → List Value → Value
aggregate_of Function.Count distinct values = count_of distinct values
aggregate_of Function.Sum distinct values = sum_of values
aggregate_of Function.Min distinct values = least values
aggregate_of Function.Max distinct values = greatest values
aggregate_of other distinct values = Null

-- a function of whole rows: `count(*)`; of another function it means nothing
unfoldable pub rows_aggregate_of : Function → List Row → Value
rows_aggregate_of Function.Count rows = Long (pos (length rows))
rows_aggregate_of other rows = Null

-- a call over rows, by its argument's values where it has one
abbrev pub called_over : Function → Bool → Option TypedExpr → List Row → Value
called_over function distinct None rows = rows_aggregate_of function rows
called_over function distinct (Some argument) rows = aggregate_of function distinct (map (λ row. val argument row) rows)

-- the value of an aggregate call over the rows of a group
abbrev pub call_value : AggregateCall → List Row → Value
call_value c rows = called_over c.function c.distinct c.argument rows
