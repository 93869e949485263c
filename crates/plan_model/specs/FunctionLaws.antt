-- What numbers that wrap, texts and dates hold.
use Rattle.std.specs.Prelude.{◌≡◌, ◌↔◌, ◌^◌, ℕ, ℤ, pos, IsTrue, List, [], ◌∷◌, ◌++◌, FitsSigned}
use Rattle.std.specs.Int.{w32, w64, int_rem_euclid}
use Rattle.jiff_core.specs.Calendar.{days_from_civil, IsCivilDate}
use Rattle.cn_types.specs.declared.value.DataType.{DataType}
use Rattle.cn_types.specs.declared.value.Value.{Value}
use Rattle.cn_types.specs.declared.value.Value.TheVariants.{Integer, Long, Date}
use Rattle.cn_types.specs.Fit.{IsDay}
use Rattle.plan_model.specs.declared.function.Function.{Function}
use Rattle.plan_model.specs.Arithmetic.{wrapped_integer, wrapped_long}
use Rattle.plan_model.specs.Functions.{call}
use Rattle.plan_model.specs.Texts.{has_start, has_end}

-- a number wraps to the one number in its type's range that leaves the same rest by 2^32, or by 2^64
pub record NumbersWrap : Type 0 where
  pub integer : (n r : ℤ) → (wrapped_integer n ≡ Integer r) ↔ (FitsSigned w32 r × (int_rem_euclid r (pos (2 ^ 32)) ≡ int_rem_euclid n (pos (2 ^ 32))))
  pub long : (n r : ℤ) → (wrapped_long n ≡ Long r) ↔ (FitsSigned w64 r × (int_rem_euclid r (pos (2 ^ 64)) ≡ int_rem_euclid n (pos (2 ^ 64))))

-- a text starts with a part where it is the part and then something, and ends with one where it is something and then the part
pub record TextsStartAndEnd : Type 0 where
  pub starts : (text part : List ℕ) → IsTrue (has_start text part) ↔ ((after : List ℕ) × (text ≡ part ++ after))
  pub ends : (text part : List ℕ) → IsTrue (has_end text part) ↔ ((before : List ℕ) × (text ≡ before ++ part))

-- `year`, `month` and `dayofmonth` of a date
pub record PartsAre (date : Value) (year month day : ℕ) : Type 0 where
  pub year_part : call Function.Year DataType.Integer (date ∷ []) ≡ Integer (pos year)
  pub month_part : call Function.Month DataType.Integer (date ∷ []) ≡ Integer (pos month)
  pub day_part : call Function.DayOfMonth DataType.Integer (date ∷ []) ≡ Integer (pos day)

-- they are those of the calendar's date with the day's number
abbrev pub DatePartsAreOfTheCalendar : Type 0
DatePartsAreOfTheCalendar = (number : ℤ) (year month day : ℕ) → IsDay number → IsCivilDate (pos year) month day → days_from_civil (pos year) month day ≡ number → PartsAre (Date number) year month day
