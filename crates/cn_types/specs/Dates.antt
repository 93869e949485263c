-- The calendar date of a day (ISO 8601), whose days are counted from 1970-01-01.
use Rattle.std.specs.Prelude.{◌≡◌, ℕ, zero, suc, ◌+◌, ℤ, pos, ◌-ℤ◌, int_lt, unsigned_abs, if◌then◌else◌, List, [], ◌∷◌, ◌++◌}
use Rattle.jiff_core.specs.Calendar.{days_from_civil, IsCivilDate}
use Rattle.jiff_fmt.specs.Text.{pad2, pad4}
use Rattle.cn_types.specs.Fit.{IsDay}

-- the last number from 1 to n that starts no later than the day, or 0
unfoldable pub last_start : (ℕ → ℤ) → ℕ → ℤ → ℕ
last_start start zero day = 0
last_start start (suc n) day = if int_lt day (start (suc n)) then last_start start n day else suc n

-- the last year whose 1 January is no later than the day
unfoldable pub year_of : ℤ → ℕ
year_of day = last_start (λ year. days_from_civil (pos year) 1 1) 9999 day

-- the last month of that year whose first day is no later than the day
unfoldable pub month_of : ℤ → ℕ
month_of day = last_start (λ month. days_from_civil (pos (year_of day)) month 1) 12 day

-- the day's place in that month, from 1
unfoldable pub month_day_of : ℤ → ℕ
month_day_of day = unsigned_abs (day -ℤ days_from_civil (pos (year_of day)) (month_of day) 1) + 1

-- the date as YYYY-MM-DD
unfoldable pub date_text : ℤ → List ℕ
date_text day =
    pad4 (year_of day) ++ 45 ∷ [] ++ pad2 (month_of day) ++ 45 ∷ [] ++ pad2 (month_day_of day)

-- the day has this year, month and day of the month, which the calendar has
pub record IsDateOf (day : ℤ) : Type 0 where
  pub civil : IsCivilDate (pos (year_of day)) (month_of day) (month_day_of day)
  pub same : days_from_civil (pos (year_of day)) (month_of day) (month_day_of day) ≡ day

-- each day in range is that date of the calendar which its text names
abbrev pub DatesAreOfTheCalendar : Type 0
DatesAreOfTheCalendar = (day : ℤ) → IsDay day → IsDateOf day
