-- Aggregates over values that come one by one.
use Rattle.std.specs.Prelude.{ℤ, pos, ◌+ℤ◌, Bool, if◌then◌else◌, Option, None, Some, IfSome, unwrap_or, List, [], ◌∷◌}
use Rattle.std.specs.Int.{w64, int_wrap}
use Rattle.std.specs.List.{reduce}
use Rattle.std.specs.Ordering.{is_lt, ord_min, ord_max}
use Rattle.cn_types.specs.Order.{value_cmp}
use Rattle.cn_types.specs.declared.value.Value.{Value}
use Rattle.cn_types.specs.declared.value.Value.TheVariants.{Null, Long}
use Rattle.plan_model.specs.declared.node.AggregateCall.{AggregateCall}
use Rattle.plan_model.specs.Aggregates.{present, total}
use Rattle.plan_model.specs.Arithmetic.{number}
use Rattle.expr_eval.specs.Dated.{HasLiteralsInRange}
use Rattle.expr_eval.specs.Operands.{operand_value}
use Rattle.expr_eval.specs.declared.operand.Operand.{Operand}

-- the literals of the call's argument are in range
abbrev pub HasArgumentInRange : AggregateCall → Type 0
HasArgumentInRange call = IfSome call.argument HasLiteralsInRange

-- what a value adds to a sum: nothing where it is null
abbrev pub term_of : Value → Option ℤ
term_of Null = None
term_of value = Some (unwrap_or (number value) (pos 0))

-- a sum with one term more
abbrev pub sum_with : Option ℤ → Option ℤ → Option ℤ
sum_with sum None = sum
sum_with sum (Some term) = Some (int_wrap w64 (unwrap_or sum (pos 0) +ℤ term))

-- the number, unless the list is empty
abbrev pub some_unless_empty : List Value → ℤ → Option ℤ
some_unless_empty [] number = None
some_unless_empty (first ∷ rest) number = Some number

-- the sum of the values that are not null, wrapped to a long, if there are any
abbrev pub sum_there : List Value → Option ℤ
sum_there values = some_unless_empty (present values) (int_wrap w64 (total (present values)))

-- a long, or null
abbrev pub long_of : Option ℤ → Value
long_of None = Null
long_of (Some number) = Long number

-- the greater or the less of two values
abbrev pub better : Bool → Value → Value → Value
better greatest = if greatest then ord_max value_cmp else ord_min value_cmp

-- the greatest or the least of the values that are not null, if there are any
abbrev pub best_there : Bool → List Value → Option Value
best_there greatest values = reduce (better greatest) (present values)

-- the best value so far, and one more that may be null
abbrev pub best_with : Bool → Option Value → Value → Option Value
best_with greatest best Null = best
best_with greatest None value = Some value
best_with greatest (Some best) value = Some (better greatest best value)

-- the first operand's value stands before the second's
abbrev pub operand_before : Operand → Operand → Bool
operand_before a b = is_lt (value_cmp (operand_value a) (operand_value b))
