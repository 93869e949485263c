-- Comparisons of SQL: null where one side is null. An integer beside a long counts as a long.
use Rattle.std.specs.Prelude.{Bool, true, false, Option, None, Some, List, [], ◌∷◌, map}
use Rattle.std.specs.declared.cmp.Ordering.{Ordering}
use Rattle.std.specs.Ordering.{nat_cmp, int_cmp, bool_cmp, is_eq, is_some_and}
use Rattle.std.specs.Cmp.Lexicographic.{slice_cmp}
use Rattle.cn_types.specs.declared.value.Value.{Value}
use Rattle.cn_types.specs.declared.value.Value.TheVariants.{Null, Boolean, Integer, Long, Text, Date}
use Rattle.plan_model.specs.Truth.{or_value}

-- how two values stand to each other: nothing where one is null. Values that no type holds both stand in no call that there is
abbrev pub comparison : Value → Value → Option Ordering
comparison (Boolean a) (Boolean b) = Some (bool_cmp a b)
comparison (Integer a) (Integer b) = Some (int_cmp a b)
comparison (Integer a) (Long b) = Some (int_cmp a b)
comparison (Long a) (Integer b) = Some (int_cmp a b)
comparison (Long a) (Long b) = Some (int_cmp a b)
comparison (Text a) (Text b) = Some (slice_cmp nat_cmp a b)
comparison (Date a) (Date b) = Some (int_cmp a b)
comparison a b = None

-- what a test says of a comparison: null where there is none
abbrev pub judged : (Ordering → Bool) → Option Ordering → Value
judged test None = Null
judged test (Some ordering) = Boolean (test ordering)

-- a comparison by a test of the ordering: `=`, `!=`, `<`, `<=`, `>` or `>=`
abbrev pub compared : (Ordering → Bool) → Value → Value → Value
compared test a b = judged test (comparison a b)

-- `=`
abbrev pub equal_to : Value → Value → Value
equal_to a b = compared is_eq a b

-- two values are not distinct: both are null, or they are equal
abbrev pub is_not_distinct : Value → Value → Bool
is_not_distinct Null Null = true
is_not_distinct a b = is_some_and is_eq (comparison a b)

-- `<=>`: `is not distinct from`, which is never null
abbrev pub equal_null_safe : Value → Value → Value
equal_null_safe a b = Boolean (is_not_distinct a b)

-- the `or` of several values
abbrev pub or_all : List Value → Value
or_all [] = Boolean false
or_all (value ∷ values) = or_value value (or_all values)

-- `in`: the value is equal to one of the others, by `or` over `=`
abbrev pub member_of : Value → List Value → Value
member_of value others = or_all (map (λ other. equal_to value other) others)
