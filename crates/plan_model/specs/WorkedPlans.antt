-- Small plans, and the outcomes that they allow, written out.
use Rattle.std.specs.Prelude.{◌≡◌, ◌↔◌, pos, negsuc, true, false, List, [], ◌∷◌, None, Some, Ok}
use Rattle.cn_types.specs.declared.row.Row.{Row}
use Rattle.cn_types.specs.declared.schema.Field.{Field}
use Rattle.cn_types.specs.declared.value.DataType.{DataType}
use Rattle.cn_types.specs.declared.value.Value.{Value}
use Rattle.cn_types.specs.declared.value.Value.TheVariants.{Null, Long}
use Rattle.plan_model.specs.declared.expression.TypedExpr.{TypedExpr}
use Rattle.plan_model.specs.declared.expression.TypedExpr.TheVariants.{Column, Call}
use Rattle.plan_model.specs.declared.function.Function.{Function}
use Rattle.plan_model.specs.declared.node.AggregateCall.{AggregateCall}
use Rattle.plan_model.specs.declared.node.JoinKind.{JoinKind}
use Rattle.plan_model.specs.declared.node.Node.{Node}
use Rattle.plan_model.specs.declared.node.Node.TheVariants.{Rows, Range, Project, Join, SetOp, Aggregate, DistinctOn, Sort, Slice}
use Rattle.plan_model.specs.declared.node.SetKind.{SetKind}
use Rattle.plan_model.specs.declared.node.SortKey.{SortKey}
use Rattle.plan_model.specs.Allows.{Allows}
use Rattle.plan_model.specs.Counts.{SameCounts}
use Rattle.plan_model.specs.Outcomes.{Evaluated}

-- a row of one value
abbrev pub row_with : Value → Row
row_with value = record { 0 = value ∷ [] }

-- rows of one long column `k`
abbrev pub key_field : Field
key_field = record { name = 107 ∷ []; kind = DataType.Long; nullable = true }

abbrev pub given : List Row → Node
given rows = Rows (record { 0 = key_field ∷ [] }) rows

abbrev pub seven : Row
seven = row_with (Long (pos 7))

abbrev pub one : Row
one = row_with (Long (pos 1))

abbrev pub two : Row
two = row_with (Long (pos 2))

abbrev pub null : Row
null = row_with Null

-- the first and the second column
abbrev pub first : TypedExpr
first = Column 0 DataType.Long

abbrev pub second : TypedExpr
second = Column 1 DataType.Long

-- the aggregate of the whole column by a function
abbrev pub whole : AggregateCall → List Row → Node
whole call rows = Aggregate (given rows) [] (call ∷ []) (first ∷ [])

abbrev pub sum_call : AggregateCall
sum_call = record { function = Function.Sum; argument = Some first; distinct = false }

abbrev pub distinct_call : AggregateCall
distinct_call = record { function = Function.Count; argument = Some first; distinct = true }

-- a full join where both columns are equal, and the first of the two that is not null
abbrev pub full_join : List Row → List Row → Node
full_join left right =
    Project (Join (given left) (given right) JoinKind.Full (Some (Call Function.EqualTo (first ∷ second ∷ []) DataType.Boolean)))
    (Call Function.Coalesce (first ∷ second ∷ []) DataType.Long ∷ [])

-- how many rows there are
abbrev pub count_call : AggregateCall
count_call = record { function = Function.Count; argument = None; distinct = false }

-- the rows counted for each value of the column
abbrev pub grouped : List Row → Node
grouped rows = Aggregate (given rows) (first ∷ []) (count_call ∷ []) (first ∷ second ∷ [])

-- a row of two values
abbrev pub row_of_two : Value → Value → Row
row_of_two a b = record { 0 = a ∷ b ∷ [] }

-- the greatest first, and nulls last
abbrev pub falling : SortKey
falling = record { expr = first; descending = true; nulls_last = true }

-- the second row from the greatest on
abbrev pub runner_up : List Row → Node
runner_up rows = Slice (Sort (given rows) (falling ∷ [])) 1 (Some 1)

-- these rows in some order, and no other outcome
abbrev pub InAnyOrder : Node → List Row → Type 0
InAnyOrder node rows = (outcome : Evaluated) → Allows node outcome ↔ ((list : List Row) × SameCounts list rows × (outcome ≡ Ok list))

-- these rows in this order, and no other outcome
abbrev pub InThisOrder : Node → List Row → Type 0
InThisOrder node rows = (outcome : Evaluated) → Allows node outcome ↔ (outcome ≡ Ok rows)

-- a range goes down to before its end; INTERSECT ALL of 3 and 2 copies has 2; the union of null and null is null; a full join keeps both
-- nulls apart; a sum wraps; a distinct count passes over null and counts 1 once; nulls are one group; of rows that are the same one is
-- distinct; nulls come last where they are to
pub record WorkedPlans : Type 0 where
  pub range_down : InAnyOrder (Range (pos 5) (pos 0) (negsuc 1)) (row_with (Long (pos 5)) ∷ row_with (Long (pos 3)) ∷ row_with (Long (pos 1)) ∷ [])
  pub intersect_all : InThisOrder (SetOp (given (seven ∷ seven ∷ seven ∷ [])) (given (seven ∷ seven ∷ [])) SetKind.Intersect true) (seven ∷ seven ∷ [])
  pub union : InThisOrder (SetOp (given (null ∷ [])) (given (null ∷ [])) SetKind.Union false) (null ∷ [])
  pub full : InAnyOrder (full_join (one ∷ null ∷ []) (null ∷ two ∷ [])) (one ∷ null ∷ null ∷ two ∷ [])
  pub sum : InThisOrder (whole sum_call (row_with (Long (pos 9223372036854775807)) ∷ one ∷ [])) (row_with (Long (negsuc 9223372036854775807)) ∷ [])
  pub distinct : InThisOrder (whole distinct_call (one ∷ one ∷ null ∷ [])) (one ∷ [])
  pub groups : InAnyOrder (grouped (one ∷ null ∷ one ∷ null ∷ null ∷ [])) (row_of_two (Long (pos 1)) (Long (pos 2)) ∷ row_of_two Null (Long (pos 3)) ∷ [])
  pub distinct_rows : InAnyOrder (DistinctOn (given (one ∷ null ∷ one ∷ null ∷ [])) (0 ∷ [])) (one ∷ null ∷ [])
  pub second_of_three : InThisOrder (runner_up (null ∷ one ∷ two ∷ [])) (one ∷ [])
