-- Conditional functions, after Spark SQL's, whose values all take the type of the call.
use Rattle.std.specs.Prelude.{List, [], ◌∷◌, if◌then◌else◌, find, unwrap_or}
use Rattle.cn_types.specs.declared.value.DataType.{DataType}
use Rattle.cn_types.specs.declared.value.Value.{Value}
use Rattle.cn_types.specs.declared.value.Value.TheVariants.{Null, Integer, Long}
use Rattle.plan_model.specs.Truth.{is_true, is_present}

-- the value in a type that holds it: an integer is a long where the type is long
abbrev pub widened : DataType → Value → Value
widened DataType.Long (Integer n) = Long n
widened kind value = value

-- `coalesce`: the first value that is not null
abbrev pub coalesce : List Value → Value
coalesce values = unwrap_or (find is_present values) Null

-- `when`: the value after the first true condition, else the last value without a condition, else null
abbrev pub when : List Value → Value
when [] = Null
when (otherwise ∷ []) = otherwise
when (condition ∷ value ∷ rest) = if is_true condition then value else when rest
