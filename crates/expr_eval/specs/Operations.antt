-- The functions of two values and of one, and the tests of a comparison.
use Rattle.std.specs.Prelude.{ℤ, ◌+ℤ◌, ◌-ℤ◌, ◌*ℤ◌, Bool}
use Rattle.std.specs.declared.cmp.Ordering.{Ordering}
use Rattle.std.specs.Ordering.{is_eq, is_ne, is_lt, is_le, is_gt, is_ge}
use Rattle.cn_types.specs.Dates.{year_of, month_of, month_day_of}
use Rattle.cn_types.specs.declared.value.Value.{Value}
use Rattle.plan_model.specs.Arithmetic.{arithmetic, remainder, integral_divide, negative, absolute}
use Rattle.plan_model.specs.Comparisons.{compared, equal_null_safe}
use Rattle.plan_model.specs.DateFunctions.{date_moved, date_difference, date_part}
use Rattle.plan_model.specs.Texts.{text_length, has_start, has_end, has_part, text_test}
use Rattle.plan_model.specs.Truth.{and_value, or_value, not_value, is_null, is_not_null}
use Rattle.expr_eval.specs.declared.arithmetic.Operation.{Operation}
use Rattle.expr_eval.specs.declared.comparisons.Test.{Test}
use Rattle.expr_eval.specs.declared.forms.Binary.{Binary}
use Rattle.expr_eval.specs.declared.forms.Unary.{Unary}

abbrev pub operation_of : Operation → ℤ → ℤ → ℤ
operation_of Operation.Add = ◌+ℤ◌
operation_of Operation.Subtract = ◌-ℤ◌
operation_of Operation.Multiply = ◌*ℤ◌

abbrev pub test_of : Test → Ordering → Bool
test_of Test.Equal = is_eq
test_of Test.NotEqual = is_ne
test_of Test.Less = is_lt
test_of Test.LessOrEqual = is_le
test_of Test.Greater = is_gt
test_of Test.GreaterOrEqual = is_ge

abbrev pub binary_of : Binary → Value → Value → Value
binary_of (Binary.Arithmetic operation) = arithmetic (operation_of operation)
binary_of Binary.Remainder = remainder
binary_of Binary.IntegralDivide = integral_divide
binary_of (Binary.Compare test) = compared (test_of test)
binary_of Binary.EqualNullSafe = equal_null_safe
binary_of Binary.And = and_value
binary_of Binary.Or = or_value
binary_of Binary.StartsWith = text_test has_start
binary_of Binary.EndsWith = text_test has_end
binary_of Binary.Contains = text_test has_part
binary_of Binary.DateAdd = date_moved ◌+ℤ◌
binary_of Binary.DateSub = date_moved ◌-ℤ◌
binary_of Binary.DateDiff = date_difference

abbrev pub unary_of : Unary → Value → Value
unary_of Unary.Negative = negative
unary_of Unary.Abs = absolute
unary_of Unary.Not = not_value
unary_of Unary.IsNull = is_null
unary_of Unary.IsNotNull = is_not_null
unary_of Unary.Length = text_length
unary_of Unary.Year = date_part year_of
unary_of Unary.Month = date_part month_of
unary_of Unary.DayOfMonth = date_part month_day_of
