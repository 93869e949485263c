-- Date functions, after Spark SQL's, on days from 0001-01-01 to 9999-12-31, counted from 1970-01-01.
use Rattle.std.specs.Prelude.{ℕ, ℤ, pos, ◌-ℤ◌, int_le, Bool, ◌&&◌, if◌then◌else◌}
use Rattle.cn_types.specs.Fit.{first_day, last_day}
use Rattle.cn_types.specs.declared.value.Value.{Value}
use Rattle.cn_types.specs.declared.value.Value.TheVariants.{Null, Integer, Date}

-- the day is in range
abbrev pub is_day : ℤ → Bool
is_day day = int_le first_day day && int_le day last_day

-- the date of a day, or null out of range
abbrev pub date_in_range : ℤ → Value
date_in_range day = if is_day day then Date day else Null

-- a date moved by days: `date_add` by a sum, `date_sub` by a difference
abbrev pub date_moved : (ℤ → ℤ → ℤ) → Value → Value → Value
date_moved move (Date day) (Integer days) = date_in_range (move day days)
date_moved move a b = Null

-- `datediff`: the days from the second date to the first
abbrev pub date_difference : Value → Value → Value
date_difference (Date later) (Date earlier) = Integer (later -ℤ earlier)
date_difference a b = Null

-- a part of a date: `year`, `month` or `dayofmonth`
abbrev pub date_part : (ℤ → ℕ) → Value → Value
date_part part (Date day) = Integer (pos (part day))
date_part part other = Null
