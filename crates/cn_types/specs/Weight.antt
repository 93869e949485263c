-- What values and rows weigh.
use Rattle.std.specs.Prelude.{ℕ, ◌+◌, ◌-◌, ◌^◌, length, min, sum_by}
use Rattle.cn_types.specs.declared.value.Value.{Value}
use Rattle.cn_types.specs.declared.value.Value.TheVariants.{Null, Boolean, Integer, Long, Text, Date}
use Rattle.cn_types.specs.declared.row.Row.{Row}

-- long 8, integer and date 4, boolean and null 1, a text 4 and its bytes
abbrev pub weight_of : Value → ℕ
weight_of Null = 1
weight_of (Boolean value) = 1
weight_of (Integer value) = 4
weight_of (Long value) = 8
weight_of (Text value) = 4 + length value
weight_of (Date days) = 4

-- the sum of the values' weights, or 2^64 - 1 where it is above that
abbrev pub row_weight : Row → ℕ
row_weight row = min (sum_by weight_of row.0) (2 ^ 64 - 1)
