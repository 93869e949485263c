-- Small joins, sorts and slices, and the outcomes that they allow, written out.
use Rattle.std.specs.Prelude.{pos, Bool, true, false, List, [], ◌∷◌, Option, None, Some}
use Rattle.cn_types.specs.declared.row.Row.{Row}
use Rattle.cn_types.specs.declared.schema.Field.{Field}
use Rattle.cn_types.specs.declared.schema.Schema.{Schema}
use Rattle.cn_types.specs.declared.value.DataType.{DataType}
use Rattle.cn_types.specs.declared.value.Value.TheVariants.{Null, Long}
use Rattle.plan_model.specs.declared.expression.TypedExpr.{TypedExpr}
use Rattle.plan_model.specs.declared.expression.TypedExpr.TheVariants.{Call}
use Rattle.plan_model.specs.declared.function.Function.{Function}
use Rattle.plan_model.specs.declared.node.JoinKind.{JoinKind}
use Rattle.plan_model.specs.declared.node.Node.{Node}
use Rattle.plan_model.specs.declared.node.Node.TheVariants.{Rows, Join, Sort, Slice}
use Rattle.plan_model.specs.declared.node.SortKey.{SortKey}
use Rattle.plan_model.specs.WorkedPlans.{key_field, given, one, two, null, first, second, row_of_two, falling, InAnyOrder, InThisOrder}

-- both columns are equal, and the first is less than the second
abbrev pub equal : TypedExpr
equal = Call Function.EqualTo (first ∷ second ∷ []) DataType.Boolean

abbrev pub less : TypedExpr
less = Call Function.LessThan (first ∷ second ∷ []) DataType.Boolean

-- a join of two relations of one column
abbrev pub join_of : JoinKind → Option TypedExpr → List Row → List Row → Node
join_of kind condition left right = Join (given left) (given right) kind condition

abbrev pub one_two : Row
one_two = row_of_two (Long (pos 1)) (Long (pos 2))

abbrev pub two_two : Row
two_two = row_of_two (Long (pos 2)) (Long (pos 2))

abbrev pub one_null : Row
one_null = row_of_two (Long (pos 1)) Null

abbrev pub null_two : Row
null_two = row_of_two Null (Long (pos 2))

abbrev pub null_null : Row
null_null = row_of_two Null Null

-- a left join has a left row once for each match, and one without a match once beside null; a right join has a right row so; without a
-- condition each pair matches; a cross join with a condition has the pairs of which it is true, the left value first; a semi and an anti join
-- have the left rows with, and without, a match
pub record WorkedJoins : Type 0 where
  pub left : InAnyOrder (join_of JoinKind.Left (Some equal) (one ∷ two ∷ null ∷ []) (two ∷ two ∷ [])) (two_two ∷ two_two ∷ one_null ∷ null_null ∷ [])
  pub right : InAnyOrder (join_of JoinKind.Right (Some less) (one ∷ []) (two ∷ one ∷ [])) (one_two ∷ row_of_two Null (Long (pos 1)) ∷ [])
  pub each_pair : InAnyOrder (join_of JoinKind.Inner None (one ∷ null ∷ []) (two ∷ [])) (one_two ∷ null_two ∷ [])
  pub cross : InAnyOrder (join_of JoinKind.Cross (Some less) (one ∷ two ∷ []) (one ∷ two ∷ [])) (one_two ∷ [])
  pub semi : InAnyOrder (join_of JoinKind.Semi (Some equal) (one ∷ two ∷ []) (two ∷ two ∷ [])) (two ∷ [])
  pub anti : InAnyOrder (join_of JoinKind.Anti (Some equal) (one ∷ two ∷ []) (two ∷ two ∷ [])) (one ∷ [])

-- rows of two long columns `k` and `v`
abbrev pub value_field : Field
value_field = record { name = 118 ∷ []; kind = DataType.Long; nullable = true }

abbrev pub two_fields : Schema
two_fields = record { 0 = key_field ∷ value_field ∷ [] }

abbrev pub two_one : Row
two_one = row_of_two (Long (pos 2)) (Long (pos 1))

abbrev pub one_one : Row
one_one = row_of_two (Long (pos 1)) (Long (pos 1))

abbrev pub null_five : Row
null_five = row_of_two Null (Long (pos 5))

abbrev pub unsorted : List Row
unsorted = two_one ∷ null_five ∷ one_two ∷ one_one ∷ []

-- by the first column as the key says, and then by the second one ascending
abbrev pub first_key : Bool → Bool → SortKey
first_key descending nulls_last = record { expr = first; descending = descending; nulls_last = nulls_last }

abbrev pub second_key : SortKey
second_key = record { expr = second; descending = false; nulls_last = false }

abbrev pub sorted_by : Bool → Bool → Node
sorted_by descending nulls_last = Sort (Rows two_fields unsorted) (first_key descending nulls_last ∷ second_key ∷ [])

-- the second key decides only where the first ties; nulls stand where the first key says, whether it descends or not
pub record WorkedSorts : Type 0 where
  pub ascending_nulls_first : InThisOrder (sorted_by false false) (null_five ∷ one_one ∷ one_two ∷ two_one ∷ [])
  pub ascending_nulls_last : InThisOrder (sorted_by false true) (one_one ∷ one_two ∷ two_one ∷ null_five ∷ [])
  pub descending_nulls_first : InThisOrder (sorted_by true false) (null_five ∷ two_one ∷ one_one ∷ one_two ∷ [])
  pub descending_nulls_last : InThisOrder (sorted_by true true) (two_one ∷ one_one ∷ one_two ∷ null_five ∷ [])

-- rows of one column from the greatest on, with null last
abbrev pub three_sorted : List Row → Node
three_sorted rows = Sort (given rows) (falling ∷ [])

pub record WorkedSlices : Type 0 where
  pub without_the_first : InThisOrder (Slice (three_sorted (null ∷ one ∷ two ∷ [])) 1 None) (one ∷ null ∷ [])
  pub all_of_them : InThisOrder (Slice (three_sorted (null ∷ one ∷ two ∷ [])) 0 None) (two ∷ one ∷ null ∷ [])
  pub none_behind_the_last : InThisOrder (Slice (three_sorted (null ∷ one ∷ two ∷ [])) 3 None) []
  pub the_first_two : InThisOrder (Slice (three_sorted (null ∷ one ∷ two ∷ [])) 0 (Some 2)) (two ∷ one ∷ [])
