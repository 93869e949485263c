-- Casts between the column types, after Spark SQL outside ANSI mode. A null stays null, and a cast that there isn't means nothing.
use Rattle.std.specs.Prelude.{ℤ, pos, Bool, true, false, not}
use Rattle.std.specs.Ordering.{int_eq}
use Rattle.cn_types.specs.declared.value.DataType.{DataType}
use Rattle.cn_types.specs.declared.value.Value.{Value}
use Rattle.cn_types.specs.declared.value.Value.TheVariants.{Null, Boolean, Integer, Long, Text, Date}
use Rattle.cn_types.specs.Printed.{printed}
use Rattle.plan_model.specs.Arithmetic.{wrapped_integer}

-- true is 1 and false is 0
abbrev pub bit : Bool → ℤ
bit true = pos 1
bit false = pos 0

-- a number is true where it is not zero
abbrev pub is_nonzero : ℤ → Bool
is_nonzero n = not (int_eq n (pos 0))

-- the value in another type: a long becomes an integer by its low 32 bits, and what becomes a text is as it is printed
abbrev pub cast_to : DataType → Value → Value
cast_to DataType.Boolean (Boolean b) = Boolean b
cast_to DataType.Boolean (Integer n) = Boolean (is_nonzero n)
cast_to DataType.Boolean (Long n) = Boolean (is_nonzero n)
cast_to DataType.Integer (Boolean b) = Integer (bit b)
cast_to DataType.Integer (Integer n) = Integer n
cast_to DataType.Integer (Long n) = wrapped_integer n
cast_to DataType.Long (Boolean b) = Long (bit b)
cast_to DataType.Long (Integer n) = Long n
cast_to DataType.Long (Long n) = Long n
cast_to DataType.Text (Boolean b) = Text (printed (Boolean b))
cast_to DataType.Text (Integer n) = Text (printed (Integer n))
cast_to DataType.Text (Long n) = Text (printed (Long n))
cast_to DataType.Text (Text text) = Text text
cast_to DataType.Text (Date day) = Text (printed (Date day))
cast_to DataType.Date (Date day) = Date day
cast_to kind value = Null
