-- The table of functions and the aggregates, a line each.
use Rattle.std.specs.Prelude.{◌≡◌, ◌≢◌, ◌↔◌, ◌⊎◌, ℕ, Bool, false, Option, None, Some, List, [], ◌∷◌, ◌++◌, flat_map, replicate}
use Rattle.std.specs.List.{AllByRecursion}
use Rattle.cn_types.specs.declared.value.DataType.{DataType}
use Rattle.cn_types.specs.declared.value.DataType.TheVariants.{Boolean, Integer, Long, Text, Date}
use Rattle.plan_model.specs.declared.function.Function.{Function}
use Rattle.plan_model.specs.FunctionTypes.{call_type, aggregate_type}

-- integer or long
pub data IsNumeric : DataType → Type 0 where
  integer : IsNumeric Integer
  long : IsNumeric Long

-- two numbers, of which one that is long makes both long
pub data AreNumeric : DataType → DataType → DataType → Type 0 where
  integers : AreNumeric Integer Integer Integer
  integer_and_long : AreNumeric Integer Long Long
  long_and_integer : AreNumeric Long Integer Long
  longs : AreNumeric Long Long Long

-- one of the types is long
abbrev pub HasLong : List DataType → Type 0
HasLong [] = ⊥
HasLong (kind ∷ kinds) = (kind ≡ Long) ⊎ HasLong kinds

-- types that are the same: all are one type; or all are numbers, some of them long, which they then count as
pub data AreSame : List DataType → DataType → Type 0 where
  one_type : (kind : DataType) (kinds : List DataType) → kinds ≢ [] → AllByRecursion (λ other. other ≡ kind) kinds → AreSame kinds kind
  numbers : (kinds : List DataType) → AllByRecursion IsNumeric kinds → HasLong kinds → AreSame kinds Long

-- conditions and values in turn
abbrev pub branch_types : List DataType → List DataType
branch_types values = flat_map (λ value. Boolean ∷ value ∷ []) values

-- the function takes arguments of these types, and its call has this type
pub data IsInTable : Function → List DataType → DataType → Type 0 where
  add : (a b kind : DataType) → AreNumeric a b kind → IsInTable Function.Add (a ∷ b ∷ []) kind
  subtract : (a b kind : DataType) → AreNumeric a b kind → IsInTable Function.Subtract (a ∷ b ∷ []) kind
  multiply : (a b kind : DataType) → AreNumeric a b kind → IsInTable Function.Multiply (a ∷ b ∷ []) kind
  remainder : (a b kind : DataType) → AreNumeric a b kind → IsInTable Function.Remainder (a ∷ b ∷ []) kind
  divide : (a b kind : DataType) → AreNumeric a b kind → IsInTable Function.IntegralDivide (a ∷ b ∷ []) Long
  negative : (kind : DataType) → IsNumeric kind → IsInTable Function.Negative (kind ∷ []) kind
  absolute : (kind : DataType) → IsNumeric kind → IsInTable Function.Abs (kind ∷ []) kind
  equal : (a b kind : DataType) → AreSame (a ∷ b ∷ []) kind → IsInTable Function.EqualTo (a ∷ b ∷ []) Boolean
  not_equal : (a b kind : DataType) → AreSame (a ∷ b ∷ []) kind → IsInTable Function.NotEqualTo (a ∷ b ∷ []) Boolean
  less : (a b kind : DataType) → AreSame (a ∷ b ∷ []) kind → IsInTable Function.LessThan (a ∷ b ∷ []) Boolean
  at_most : (a b kind : DataType) → AreSame (a ∷ b ∷ []) kind → IsInTable Function.LessThanOrEqual (a ∷ b ∷ []) Boolean
  greater : (a b kind : DataType) → AreSame (a ∷ b ∷ []) kind → IsInTable Function.GreaterThan (a ∷ b ∷ []) Boolean
  at_least : (a b kind : DataType) → AreSame (a ∷ b ∷ []) kind → IsInTable Function.GreaterThanOrEqual (a ∷ b ∷ []) Boolean
  null_safe : (a b kind : DataType) → AreSame (a ∷ b ∷ []) kind → IsInTable Function.EqualNullSafe (a ∷ b ∷ []) Boolean
  and_both : IsInTable Function.And (Boolean ∷ Boolean ∷ []) Boolean
  or_either : IsInTable Function.Or (Boolean ∷ Boolean ∷ []) Boolean
  not_one : IsInTable Function.Not (Boolean ∷ []) Boolean
  is_null : (a : DataType) → IsInTable Function.IsNull (a ∷ []) Boolean
  is_not_null : (a : DataType) → IsInTable Function.IsNotNull (a ∷ []) Boolean
  coalesce : (kinds : List DataType) (kind : DataType) → AreSame kinds kind → IsInTable Function.Coalesce kinds kind
  when : (values : List DataType) (kind : DataType) → AreSame values kind → IsInTable Function.When (branch_types values) kind
  when_otherwise : (values : List DataType) (otherwise kind : DataType) → values ≢ [] → AreSame (values ++ (otherwise ∷ [])) kind → IsInTable Function.When (branch_types values ++ (otherwise ∷ [])) kind
  is_in : (value other : DataType) (others : List DataType) (kind : DataType) → AreSame (value ∷ other ∷ others) kind → IsInTable Function.In (value ∷ other ∷ others) Boolean
  concat : (more : ℕ) → IsInTable Function.Concat (Text ∷ replicate more Text) Text
  length : IsInTable Function.Length (Text ∷ []) Integer
  starts_with : IsInTable Function.StartsWith (Text ∷ Text ∷ []) Boolean
  ends_with : IsInTable Function.EndsWith (Text ∷ Text ∷ []) Boolean
  contains : IsInTable Function.Contains (Text ∷ Text ∷ []) Boolean
  year : IsInTable Function.Year (Date ∷ []) Integer
  month : IsInTable Function.Month (Date ∷ []) Integer
  day_of_month : IsInTable Function.DayOfMonth (Date ∷ []) Integer
  date_add : IsInTable Function.DateAdd (Date ∷ Integer ∷ []) Date
  date_sub : IsInTable Function.DateSub (Date ∷ Integer ∷ []) Date
  date_diff : IsInTable Function.DateDiff (Date ∷ Date ∷ []) Integer

-- the type of a call is that of its line of the table, and there is none where no line allows the call
abbrev pub CallsAreOfTheTable : Type 0
CallsAreOfTheTable = (function : Function) (kinds : List DataType) (kind : DataType) → (call_type function kinds ≡ Some kind) ↔ IsInTable function kinds kind

-- the aggregate takes values of this type, or rows, and has this type
pub data IsAggregateOf : Function → Bool → Option DataType → DataType → Type 0 where
  count_rows : IsAggregateOf Function.Count false None Long
  count : (distinct : Bool) (kind : DataType) → IsAggregateOf Function.Count distinct (Some kind) Long
  sum : (kind : DataType) → IsNumeric kind → IsAggregateOf Function.Sum false (Some kind) Long
  least : (kind : DataType) → IsAggregateOf Function.Min false (Some kind) kind
  greatest : (kind : DataType) → IsAggregateOf Function.Max false (Some kind) kind

abbrev pub AggregatesAreOfTheTable : Type 0
AggregatesAreOfTheTable =
    (function : Function) (distinct : Bool) (argument : Option DataType) (kind : DataType) → (aggregate_type function distinct argument ≡ Some kind) ↔ IsAggregateOf function distinct argument kind
