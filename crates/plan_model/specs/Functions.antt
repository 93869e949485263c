-- The built-in functions, after Spark SQL's, one line each. A call that the table of functions doesn't allow means nothing: no well-formed plan
-- has one, and that it is null here says nothing of Spark SQL.
use Rattle.std.specs.Prelude.{◌+ℤ◌, ◌-ℤ◌, ◌*ℤ◌, List, [], ◌∷◌}
use Rattle.std.specs.Ordering.{is_eq, is_ne, is_lt, is_le, is_gt, is_ge}
use Rattle.cn_types.specs.Dates.{year_of, month_of, month_day_of}
use Rattle.cn_types.specs.declared.value.DataType.{DataType}
use Rattle.cn_types.specs.declared.value.Value.{Value}
use Rattle.cn_types.specs.declared.value.Value.TheVariants.{Null}
use Rattle.plan_model.specs.declared.function.Function.{Function}
use Rattle.plan_model.specs.Arithmetic.{arithmetic, remainder, integral_divide, negative, absolute}
use Rattle.plan_model.specs.Comparisons.{compared, equal_null_safe, member_of}
use Rattle.plan_model.specs.Conditionals.{coalesce, when, widened}
use Rattle.plan_model.specs.DateFunctions.{date_moved, date_difference, date_part}
use Rattle.plan_model.specs.Texts.{concat, text_length, has_start, has_end, has_part, text_test}
use Rattle.plan_model.specs.Truth.{and_value, or_value, not_value, is_null, is_not_null}

-- a function of one value, of two, and of a value and a list of others
abbrev pub of_one : (Value → Value) → List Value → Value
of_one f (a ∷ []) = f a
of_one f values = Null

abbrev pub of_two : (Value → Value → Value) → List Value → Value
of_two f (a ∷ b ∷ []) = f a b
of_two f values = Null

abbrev pub of_first : (Value → List Value → Value) → List Value → Value
of_first f (a ∷ others) = f a others
of_first f [] = Null

-- the value of a call of this type over its arguments' values; a call of an aggregate over one row means nothing
unfoldable pub call : Function → DataType → List Value → Value
call Function.Add kind = of_two (arithmetic ◌+ℤ◌)
call Function.Subtract kind = of_two (arithmetic ◌-ℤ◌)
call Function.Multiply kind = of_two (arithmetic ◌*ℤ◌)
call Function.Remainder kind = of_two remainder
call Function.IntegralDivide kind = of_two integral_divide
call Function.Negative kind = of_one negative
call Function.Abs kind = of_one absolute
call Function.EqualTo kind = of_two (compared is_eq)
call Function.NotEqualTo kind = of_two (compared is_ne)
call Function.LessThan kind = of_two (compared is_lt)
call Function.LessThanOrEqual kind = of_two (compared is_le)
call Function.GreaterThan kind = of_two (compared is_gt)
call Function.GreaterThanOrEqual kind = of_two (compared is_ge)
call Function.EqualNullSafe kind = of_two equal_null_safe
call Function.And kind = of_two and_value
call Function.Or kind = of_two or_value
call Function.Not kind = of_one not_value
call Function.IsNull kind = of_one is_null
call Function.IsNotNull kind = of_one is_not_null
call Function.Coalesce kind = λ values. widened kind (coalesce values)
call Function.When kind = λ values. widened kind (when values)
call Function.In kind = of_first member_of
call Function.Concat kind = concat
call Function.Length kind = of_one text_length
call Function.StartsWith kind = of_two (text_test has_start)
call Function.EndsWith kind = of_two (text_test has_end)
call Function.Contains kind = of_two (text_test has_part)
call Function.Year kind = of_one (date_part year_of)
call Function.Month kind = of_one (date_part month_of)
call Function.DayOfMonth kind = of_one (date_part month_day_of)
call Function.DateAdd kind = of_two (date_moved ◌+ℤ◌)
call Function.DateSub kind = of_two (date_moved ◌-ℤ◌)
call Function.DateDiff kind = of_two date_difference
call Function.Count kind = λ values. Null
call Function.Sum kind = λ values. Null
call Function.Min kind = λ values. Null
call Function.Max kind = λ values. Null
