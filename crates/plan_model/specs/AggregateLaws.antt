-- What aggregates over values hold.
use Rattle.std.specs.Prelude.{◌≡◌, ◌≢◌, ◌⊎◌, ◌+ℤ◌, Bool, true, false, List, [], ◌∷◌, ◌++◌, length, count_by, pos}
use Rattle.std.specs.List.{All, AllByRecursion}
use Rattle.std.specs.Ordering.{is_gt}
use Rattle.cn_types.specs.declared.row.Row.{Row}
use Rattle.cn_types.specs.declared.value.DataType.{DataType}
use Rattle.cn_types.specs.declared.value.Value.{Value}
use Rattle.cn_types.specs.declared.value.Value.TheVariants.{Null, Long}
use Rattle.cn_types.specs.Fit.{HasType, FitsTypes}
use Rattle.cn_types.specs.Order.{value_cmp, value_eq}
use Rattle.plan_model.specs.declared.node.AggregateCall.{AggregateCall}
use Rattle.plan_model.specs.Aggregates.{present, total, count_of, sum_of, least, greatest, call_value}
use Rattle.plan_model.specs.Counts.{SameCounts, once}
use Rattle.plan_model.specs.WellFormed.{IsCallOver}

-- over no value a sum, a least and a greatest value are null, and a count is zero
pub record NoValues : Type 0 where
  pub sum_null : (values : List Value) → present values ≡ [] → sum_of values ≡ Null
  pub least_null : (values : List Value) → present values ≡ [] → least values ≡ Null
  pub greatest_null : (values : List Value) → present values ≡ [] → greatest values ≡ Null
  pub count_zero : (distinct : Bool) (values : List Value) → present values ≡ [] → count_of distinct values ≡ Long (pos 0)

-- a count is never null
abbrev pub CountsAreNeverNull : Type 0
CountsAreNeverNull = (distinct : Bool) (values : List Value) → count_of distinct values ≢ Null

-- the numbers of two lists add up to those of both
abbrev pub TotalsAddUp : Type 0
TotalsAddUp = (xs ys : List Value) → total (xs ++ ys) ≡ (total xs +ℤ total ys)

-- the value is one of the list
abbrev pub IsOneOf : Value → List Value → Type 0
IsOneOf value [] = ⊥
IsOneOf value (first ∷ rest) = (value ≡ first) ⊎ IsOneOf value rest

-- the first value does not stand behind the second
abbrev pub IsAtMost : Value → Value → Type 0
IsAtMost a b = is_gt (value_cmp a b) ≡ false

abbrev pub IsAtLeast : Value → Value → Type 0
IsAtLeast a b = IsAtMost b a

-- a least and a greatest value bound the values that are not null, and are among them where there are any
pub record ExtremesAreReached : Type 0 where
  pub least_bounds : (values : List Value) → AllByRecursion (IsAtMost (least values)) (present values)
  pub least_reached : (values : List Value) → present values ≢ [] → IsOneOf (least values) (present values)
  pub greatest_bounds : (values : List Value) → AllByRecursion (IsAtLeast (greatest values)) (present values)
  pub greatest_reached : (values : List Value) → present values ≢ [] → IsOneOf (greatest values) (present values)

-- the value of a call that the table of functions allows, over rows that fit, has the call's type
abbrev pub CallsHaveTheirType : Type 0
CallsHaveTheirType = (columns : List DataType) (call : AggregateCall) (kind : DataType) (rows : List Row) → IsCallOver columns call kind → All (FitsTypes columns) rows → HasType kind (call_value call rows)

-- the value of a call does not depend on the order of the rows
abbrev pub CallsIgnoreOrder : Type 0
CallsIgnoreOrder = (call : AggregateCall) (xs ys : List Row) → SameCounts xs ys → call_value call xs ≡ call_value call ys

-- the list has each value that is not null once, and no other
abbrev pub AreDifferent : List Value → List Value → Type 0
AreDifferent different values = (value : Value) → count_by (value_eq value) different ≡ once (count_by (value_eq value) (present values))

-- a distinct count is the length of such a list
pub record DistinctValuesAreCounted : Type 0 where
  pub counted : (values different : List Value) → AreDifferent different values → count_of true values ≡ Long (pos (length different))
  pub there_are : (values : List Value) → (different : List Value) × AreDifferent different values
