-- Which arguments each function takes, and the type of its call; which casts there are. The table is of this project's own, after Spark SQL's:
-- a call or a cast that it doesn't have means nothing. "Same" types are one type, or an integer with a long, which counts as a long.
use Rattle.std.specs.Prelude.{Bool, true, false, if◌then◌else◌, List, [], ◌∷◌, Option, None, Some, option_map, option_and_then}
use Rattle.std.specs.List.{list_all}
use Rattle.std.specs.Cmp.Lexicographic.{pointwise}
use Rattle.cn_types.specs.declared.value.DataType.{DataType}
use Rattle.cn_types.specs.declared.value.DataType.TheVariants.{Boolean, Integer, Long, Text, Date}
use Rattle.plan_model.specs.declared.function.Function.{Function}

abbrev pub same_kind : DataType → DataType → Bool
same_kind Boolean Boolean = true
same_kind Integer Integer = true
same_kind Long Long = true
same_kind Text Text = true
same_kind Date Date = true
same_kind a b = false

-- the wider type of two numbers; none where one is no number
abbrev pub wider : DataType → DataType → Option DataType
wider Integer Integer = Some Integer
wider Integer Long = Some Long
wider Long Integer = Some Long
wider Long Long = Some Long
wider a b = None

-- the type that two same types have together
abbrev pub common : DataType → DataType → Option DataType
common Boolean Boolean = Some Boolean
common Text Text = Some Text
common Date Date = Some Date
common a b = wider a b

-- the type that several same types have together; none of no type
abbrev pub common_of : List DataType → Option DataType
common_of [] = None
common_of (kind ∷ []) = Some kind
common_of (kind ∷ kinds) = option_and_then (common kind) (common_of kinds)

-- the result of a function that takes exactly these arguments
abbrev pub exactly : List DataType → DataType → List DataType → Option DataType
exactly taken result kinds = if pointwise same_kind taken kinds then Some result else None

-- the result of a function of one argument, or of two
abbrev pub by_one : (DataType → Option DataType) → List DataType → Option DataType
by_one result (a ∷ []) = result a
by_one result kinds = None

abbrev pub by_two : (DataType → DataType → Option DataType) → List DataType → Option DataType
by_two result (a ∷ b ∷ []) = result a b
by_two result kinds = None

-- one type, where there is another at all
abbrev pub always : DataType → Option DataType → Option DataType
always kind other = option_map (λ found. kind) other

-- the types of the values of a `when`: behind each condition, and at the end perhaps one more; none where a condition is not boolean
abbrev pub when_values : List DataType → Option (List DataType)
when_values [] = Some []
when_values (otherwise ∷ []) = Some (otherwise ∷ [])
when_values (Boolean ∷ value ∷ rest) = option_map (λ values. value ∷ values) (when_values rest)
when_values (condition ∷ value ∷ rest) = None

-- `when`: at least a condition and a value
abbrev pub when_type : List DataType → Option DataType
when_type (condition ∷ value ∷ rest) = option_and_then common_of (when_values (condition ∷ value ∷ rest))
when_type kinds = None

-- `in`: a value and at least one other
abbrev pub in_type : List DataType → Option DataType
in_type (value ∷ other ∷ others) = always Boolean (common_of (value ∷ other ∷ others))
in_type kinds = None

-- `concat`: at least one text
abbrev pub concat_type : List DataType → Option DataType
concat_type [] = None
concat_type (kind ∷ kinds) = if list_all (same_kind Text) (kind ∷ kinds) then Some Text else None

-- the type of a call over arguments of these types; none where it does not take them, or is an aggregate
unfoldable pub call_type : Function → List DataType → Option DataType
call_type Function.Add = by_two wider
call_type Function.Subtract = by_two wider
call_type Function.Multiply = by_two wider
call_type Function.Remainder = by_two wider
call_type Function.IntegralDivide = by_two (λ a b. always Long (wider a b))
call_type Function.Negative = by_one (λ a. wider a a)
call_type Function.Abs = by_one (λ a. wider a a)
call_type Function.EqualTo = by_two (λ a b. always Boolean (common a b))
call_type Function.NotEqualTo = by_two (λ a b. always Boolean (common a b))
call_type Function.LessThan = by_two (λ a b. always Boolean (common a b))
call_type Function.LessThanOrEqual = by_two (λ a b. always Boolean (common a b))
call_type Function.GreaterThan = by_two (λ a b. always Boolean (common a b))
call_type Function.GreaterThanOrEqual = by_two (λ a b. always Boolean (common a b))
call_type Function.EqualNullSafe = by_two (λ a b. always Boolean (common a b))
call_type Function.And = exactly (Boolean ∷ Boolean ∷ []) Boolean
call_type Function.Or = exactly (Boolean ∷ Boolean ∷ []) Boolean
call_type Function.Not = exactly (Boolean ∷ []) Boolean
call_type Function.IsNull = by_one (λ a. Some Boolean)
call_type Function.IsNotNull = by_one (λ a. Some Boolean)
call_type Function.Coalesce = common_of
call_type Function.When = when_type
call_type Function.In = in_type
call_type Function.Concat = concat_type
call_type Function.Length = exactly (Text ∷ []) Integer
call_type Function.StartsWith = exactly (Text ∷ Text ∷ []) Boolean
call_type Function.EndsWith = exactly (Text ∷ Text ∷ []) Boolean
call_type Function.Contains = exactly (Text ∷ Text ∷ []) Boolean
call_type Function.Year = exactly (Date ∷ []) Integer
call_type Function.Month = exactly (Date ∷ []) Integer
call_type Function.DayOfMonth = exactly (Date ∷ []) Integer
call_type Function.DateAdd = exactly (Date ∷ Integer ∷ []) Date
call_type Function.DateSub = exactly (Date ∷ Integer ∷ []) Date
call_type Function.DateDiff = exactly (Date ∷ Date ∷ []) Integer
call_type Function.Count = λ kinds. None
call_type Function.Sum = λ kinds. None
call_type Function.Min = λ kinds. None
call_type Function.Max = λ kinds. None

-- the type of an aggregate over values of a type, or over rows; none where it does not take them. Only `count` of values is ever distinct
abbrev pub aggregate_type : Function → Bool → Option DataType → Option DataType
aggregate_type Function.Count false None = Some Long
aggregate_type Function.Count distinct (Some kind) = Some Long
aggregate_type Function.Sum false (Some kind) = always Long (wider kind kind)
aggregate_type Function.Min false (Some kind) = Some kind
aggregate_type Function.Max false (Some kind) = Some kind
aggregate_type function distinct kind = None

-- a value of the first type may be cast to the second
abbrev pub can_cast : DataType → DataType → Bool
can_cast Boolean Integer = true
can_cast Boolean Long = true
can_cast Boolean Text = true
can_cast Integer Boolean = true
can_cast Integer Long = true
can_cast Integer Text = true
can_cast Long Boolean = true
can_cast Long Integer = true
can_cast Long Text = true
can_cast Date Text = true
can_cast kind other = same_kind kind other
