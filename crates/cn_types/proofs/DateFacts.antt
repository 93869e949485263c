-- A day's year, month and place in the month are those of the calendar.
use Rattle.std.proofs.Common.{◌≡◌, [], ◌∷◌, ◌++◌, ℕ, zero, suc, ◌+◌, ◌<◌, ◌≤◌, ℤ, pos, negsuc, ◌+ℤ◌, ◌-ℤ◌, ◌<ℤ◌, ◌≤ℤ◌, ◌⊎◌, inl, inr, Bool, true, false, cond, refl, sym, subst, arith}
use Rattle.std.specs.Prelude.{int_lt, unsigned_abs}
use Rattle.std.proofs.Common.{rules}
use Rattle.std.proofs.lemmas.Bool.{cases_order}
use Rattle.jiff_core.specs.Calendar.{days_from_civil, days_in_month}
use Rattle.jiff_core.proofs.SignedLemmas.{signed_arith}
use Rattle.jiff_core.proofs.MarchLemmas.{day_count-early}
use Rattle.jiff_core.proofs.CalendarLemmas.{days_from_civil-day_count, day_count-next_month, day_count-next_year, day_count-last_of_year, day_count-day, day_count-end}
use Rattle.jiff_core.specs.declared.civil.date.Date.{Date}
use Rattle.jiff_core.specs.Date.{epoch_day}
use Rattle.jiff_core.proofs.DateLemmas.{epoch_day_injective}
use Rattle.jiff_fmt.specs.Text as jiff
use Rattle.cn_types.specs.Fit.{IsDay}
use Rattle.cn_types.specs.Dates.{last_start, year_of, month_of, month_day_of, date_text, DatesAreOfTheCalendar}

-- the number found starts no later than the day, and the next one later
record IsLastStart (start : ℕ → ℤ) (n : ℕ) (day : ℤ) (found : ℕ) : Type 0 where
  low : 1 ≤ found
  high : found ≤ n
  starts : start found ≤ℤ day
  before_next : found < n → day <ℤ start (found + 1)

found_before : (start : ℕ → ℤ) (n : ℕ) (day : ℤ) (found : ℕ) → day <ℤ start (suc n) → IsLastStart start n day found → IsLastStart start (suc n) day found
found_before start n day found later is = record {
  low = is.low;
  high = omega (arith, is.high);
  starts = is.starts;
  before_next = λ (below : found < suc n). by_next below (cases_order found n);
} where
  by_next : found < suc n → (found ≡ n) ⊎ ((found < n) ⊎ (n < found)) → day <ℤ start (found + 1)
  by_next below (inl e) = subst (λ (next : ℕ). day <ℤ start next) (let k : suc n ≡ found + 1 = omega (arith, e) in k) later
  by_next below (inr (inl lt)) = is.before_next lt
  by_next below (inr (inr gt)) = absurd (omega (arith, gt, below))

last_start_step : (start : ℕ → ℤ) (n : ℕ) (day : ℤ) (later : Bool) → later ≡ int_lt day (start (suc n)) → start 1 ≤ℤ day → ((1 ≤ n) → IsLastStart start n day (last_start start n day)) → IsLastStart start (suc n) day (cond later (last_start start n day) (suc n))
last_start_step start zero day true is first below = absurd (omega (arith, signed_arith))
last_start_step start (suc n) day true is first below =
    let later : day <ℤ start (suc (suc n)) = omega (arith, signed_arith) in
    found_before start (suc n) day (last_start start (suc n) day) later (below (omega arith))
last_start_step start n day false is first below = record {
  low = omega arith;
  high = omega arith;
  starts = omega (arith, signed_arith);
  before_next = λ (less : suc n < suc n). absurd (omega (arith, less));
}

last_start_is : (start : ℕ → ℤ) (n : ℕ) (day : ℤ) → 1 ≤ n → start 1 ≤ℤ day → IsLastStart start n day (last_start start n day)
unfolding last_start
last_start_is start zero day low first = absurd (omega arith)
last_start_is start (suc n) day low first = last_start_step start n day _ refl first (λ (more : 1 ≤ n). last_start_is start n day more first)

abbrev first_of_year : ℕ → ℤ
first_of_year year = days_from_civil (pos year) 1 1

start-one : days_from_civil (pos 1) 1 1 ≡ negsuc 719161
start-one = omega (arith, signed_arith, days_from_civil-day_count, day_count-early (pos 1) 10000 1 1 refl (omega arith) (omega arith) (omega arith))

year_found : (day : ℤ) → IsDay day → IsLastStart first_of_year 9999 day (year_of day)
unfolding year_of
year_found day h = last_start_is first_of_year 9999 day (omega arith) (rw start-one h.0)

-- the day lies in its year
pub record IsInYear (day : ℤ) : Type 0 where
  pub low : 1 ≤ year_of day
  pub high : year_of day ≤ 9999
  pub starts : days_from_civil (pos (year_of day)) 1 1 ≤ℤ day
  pub before_next : day <ℤ days_from_civil (pos (year_of day + 1)) 1 1

pub year_is : (day : ℤ) → IsDay day → IsInYear day
year_is day h =
    let found = year_found day h in
    record { low = found.low; high = found.high; starts = found.starts; before_next = before_next_year found (cases_order (year_of day) 9999) }
  where
    before_next_year : IsLastStart first_of_year 9999 day (year_of day) → (year_of day ≡ 9999) ⊎ ((year_of day < 9999) ⊎ (9999 < year_of day)) → day <ℤ days_from_civil (pos (year_of day + 1)) 1 1
    before_next_year found (inl e) = rw e (omega (arith, signed_arith, h.1, days_from_civil-day_count (pos 10000) 1 1, day_count-end))
    before_next_year found (inr (inl lt)) = found.before_next lt
    before_next_year found (inr (inr gt)) = absurd (omega (arith, gt, found.high))

month_found : (day : ℤ) → IsDay day → IsLastStart (λ month. days_from_civil (pos (year_of day)) month 1) 12 day (month_of day)
unfolding month_of
month_found day h = last_start_is (λ (month : ℕ). days_from_civil (pos (year_of day)) month 1) 12 day (omega arith) (year_is day h).starts

-- the day lies in its month
pub record IsInMonth (day : ℤ) : Type 0 where
  pub low : 1 ≤ month_of day
  pub high : month_of day ≤ 12
  pub starts : days_from_civil (pos (year_of day)) (month_of day) 1 ≤ℤ day
  pub before_next : day <ℤ (days_from_civil (pos (year_of day)) (month_of day) 1 +ℤ pos (days_in_month (pos (year_of day)) (month_of day)))

pub month_is : (day : ℤ) → IsDay day → IsInMonth day
month_is day h =
    let found = month_found day h in
    record { low = found.low; high = found.high; starts = found.starts; before_next = before_next_month found (year_is day h) (cases_order (month_of day) 12) }
  where
    year : ℤ
    year = pos (year_of day)

    before_next_month : IsLastStart (λ month. days_from_civil (pos (year_of day)) month 1) 12 day (month_of day) → IsInYear day → (month_of day ≡ 12) ⊎ ((month_of day < 12) ⊎ (12 < month_of day)) → day <ℤ (days_from_civil (pos (year_of day)) (month_of day) 1 +ℤ pos (days_in_month (pos (year_of day)) (month_of day)))
    before_next_month found in_year (inl e) = rw e (omega (arith, signed_arith, in_year.before_next, days_from_civil-day_count (pos (year_of day + 1)) 1 1, days_from_civil-day_count (pos (year_of day)) 12 1, day_count-next_year (pos (year_of day)) (pos (year_of day + 1)) (search rules) refl, day_count-last_of_year (pos (year_of day)), day_count-day (pos (year_of day)) 12 1 31 (omega arith) (omega arith)))
    before_next_month found in_year (inr (inl lt)) = omega (arith, signed_arith, found.before_next lt, days_from_civil-day_count (pos (year_of day)) (month_of day + 1) 1, days_from_civil-day_count (pos (year_of day)) (month_of day) 1, day_count-next_month (pos (year_of day)) (month_of day) found.low)
    before_next_month found in_year (inr (inr gt)) = absurd (omega (arith, gt, found.high))

pos-unsigned_abs : (z : ℤ) → pos 0 ≤ℤ z → pos (unsigned_abs z) ≡ z
pos-unsigned_abs (pos n) h = refl
pos-unsigned_abs (negsuc n) h = absurd (omega (arith, signed_arith, h))

pub dates_of_the_calendar : DatesAreOfTheCalendar
unfolding month_day_of
dates_of_the_calendar day h =
    let in_year = year_is day h in
    let in_month = month_is day h in
    let place = unsigned_abs (day -ℤ days_from_civil (pos (year_of day)) (month_of day) 1) in
    let is_place : pos place ≡ day -ℤ days_from_civil (pos (year_of day)) (month_of day) 1 = pos-unsigned_abs _ (omega (arith, signed_arith, in_month.starts)) in
    record {
      civil = (
        (omega (arith, signed_arith), omega (arith, signed_arith, in_year.high)),
        (in_month.low, in_month.high),
        (omega arith, omega (arith, signed_arith, is_place, in_month.before_next)),
      );
      same = omega (arith, signed_arith, is_place, days_from_civil-day_count (pos (year_of day)) (month_of day) 1, days_from_civil-day_count (pos (year_of day)) (month_of day) (place + 1), day_count-day (pos (year_of day)) (month_of day) 1 (place + 1) (omega arith) (omega arith));
    }

parts_text : (year month day : ℕ) (d : Date) → d.year ≡ pos year → d.month ≡ month → d.day ≡ day → jiff.pad4 year ++ 45 ∷ [] ++ jiff.pad2 month ++ 45 ∷ [] ++ jiff.pad2 day ≡ jiff.date_text d
parts_text year month day d one two three = rw (one, two, three) refl

-- a day's date, as jiff has it
pub record CivilDateOf (days : ℤ) : Type 0 where
  pub date : Date
  pub same : epoch_day date ≡ days
  pub text : jiff.date_text date ≡ date_text days

pub civil_date : (days : ℤ) → IsDay days → CivilDateOf days
unfolding date_text
civil_date days h =
    let is = dates_of_the_calendar days h in
    record {
      date = record { year = pos (year_of days); month = month_of days; day = month_day_of days; year_in = is.civil.0; month_in = is.civil.1; day_in = is.civil.2 };
      same = is.same;
      text = refl;
    }

-- the calendar's date of a day in range is printed as the day is
pub date_text-date : (d : Date) → IsDay (epoch_day d) → date_text (epoch_day d) ≡ jiff.date_text d
unfolding date_text
date_text-date d h =
    let is = dates_of_the_calendar (epoch_day d) h in
    let found : Date = record { year = pos (year_of (epoch_day d)); month = month_of (epoch_day d); day = month_day_of (epoch_day d); year_in = is.civil.0; month_in = is.civil.1; day_in = is.civil.2 } in
    let same = epoch_day_injective d found (sym is.same) in
    parts_text _ _ _ d same.0 same.1 same.2
