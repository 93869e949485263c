-- The parts of a day's date.
use Rattle.std.proofs.Common.{◌≡◌, ℤ, pos, sym, ◌∙◌}
use Rattle.jiff_core.specs.declared.civil.date.Date.{Date}
use Rattle.jiff_core.specs.Date.{epoch_day}
use Rattle.jiff_core.proofs.DateLemmas.{epoch_day_injective}
use Rattle.cn_types.specs.Dates.{year_of, month_of, month_day_of}
use Rattle.cn_types.specs.Fit.{IsDay}
use Rattle.cn_types.proofs.DateFacts.{dates_of_the_calendar}

-- the date has the year, the month and the day of the month of the day
pub record IsDateOfDay (date : Date) (day : ℤ) : Type 0 where
  pub year : date.year ≡ pos (year_of day)
  pub month : date.month ≡ month_of day
  pub day_of_month : date.day ≡ month_day_of day

pub date_of_day : (date : Date) (day : ℤ) → IsDay day → epoch_day date ≡ day → IsDateOfDay date day
date_of_day date day h e =
    let is = dates_of_the_calendar day h in
    let found : Date = record { year = pos (year_of day); month = month_of day; day = month_day_of day; year_in = is.civil.0; month_in = is.civil.1; day_in = is.civil.2 } in
    let same = epoch_day_injective date found (e ∙ sym is.same) in
    record { year = same.0; month = same.1; day_of_month = same.2 }
