-- Arithmetic after Spark SQL outside ANSI mode: integers of 32 bits and longs of 64 wrap in two's complement.
use Rattle.std.specs.Prelude.{ℤ, pos, neg_ℤ, int_div, int_rem, unsigned_abs, Option, None, Some, if◌then◌else◌}
use Rattle.std.specs.Int.{w32, w64, int_wrap}
use Rattle.std.specs.Ordering.{int_eq}
use Rattle.cn_types.specs.declared.value.Value.{Value}
use Rattle.cn_types.specs.declared.value.Value.TheVariants.{Null, Integer, Long}

-- the integer, and the long, of a number's lowest 32 and 64 bits
abbrev pub wrapped_integer : ℤ → Value
wrapped_integer n = Integer (int_wrap w32 n)

abbrev pub wrapped_long : ℤ → Value
wrapped_long n = Long (int_wrap w64 n)

-- the number that a value is, where it is one
abbrev pub number : Value → Option ℤ
number (Integer n) = Some n
number (Long n) = Some n
number other = None

-- an operation on two numbers (`+`, `-`, `*`): a long where one of them is long
abbrev pub arithmetic : (ℤ → ℤ → ℤ) → Value → Value → Value
arithmetic operation (Integer a) (Integer b) = wrapped_integer (operation a b)
arithmetic operation (Integer a) (Long b) = wrapped_long (operation a b)
arithmetic operation (Long a) (Integer b) = wrapped_long (operation a b)
arithmetic operation (Long a) (Long b) = wrapped_long (operation a b)
arithmetic operation a b = Null

-- the value, unless the divisor is zero
abbrev pub unless_by_zero : Option ℤ → Value → Value
unless_by_zero None value = Null
unless_by_zero (Some divisor) value = if int_eq divisor (pos 0) then Null else value

-- `%`: what a division towards zero leaves, with the sign of the left; null by zero
abbrev pub remainder : Value → Value → Value
remainder a b = unless_by_zero (number b) (arithmetic int_rem a b)

-- the quotient of two numbers, towards zero, as a long
abbrev pub quotient : Option ℤ → Option ℤ → Value
quotient (Some a) (Some b) = wrapped_long (int_div a b)
quotient a b = Null

-- `div`: a division towards zero, as a long; null by zero
abbrev pub integral_divide : Value → Value → Value
integral_divide a b = unless_by_zero (number b) (quotient (number a) (number b))

-- `negative`
abbrev pub negative : Value → Value
negative (Integer n) = wrapped_integer (neg_ℤ n)
negative (Long n) = wrapped_long (neg_ℤ n)
negative other = Null

-- `abs`
abbrev pub absolute : Value → Value
absolute (Integer n) = wrapped_integer (pos (unsigned_abs n))
absolute (Long n) = wrapped_long (pos (unsigned_abs n))
absolute other = Null
