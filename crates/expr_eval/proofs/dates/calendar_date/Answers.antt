use Rattle.std.proofs.Common.{◌≡◌, ◌∙◌, rules, FitsSigned}
use Rattle.std.specs.Int.{w32, w64}
use Rattle.std.proofs.lemmas.Int.{to_z-of_z}
use Rattle.jiff_core.specs.Date.{epoch_day}
use Rattle.expr_eval.proofs.CalendarDates.{IsDateOfDay, date_of_day}
use Rattle.expr_eval.proofs.dates.calendar_date.Goals as goal
use Rattle.expr_eval.proofs.dates.calendar_date.Goals.{In-Ok}

found : (c : In-Ok) → IsDateOfDay c.in-Ok.date c.args.day
found c =
    let fits : FitsSigned w64 c.from.result = search rules in
    let is = c.in-Ok.ensures in
    let day : epoch_day c.in-Ok.date ≡ c.args.day = is.value ∙ to_z-of_z w64 c.from.result fits ∙ c.from.ensures ∙ to_z-of_z w32 c.args.day c.ranges.day in
    date_of_day c.in-Ok.date c.args.day c.requires day

pub returns-clause-year : goal.returns-clause-year
returns-clause-year c = (found c).year

pub returns-clause-month : goal.returns-clause-month
returns-clause-month c = (found c).month

pub returns-clause-day : goal.returns-clause-day
returns-clause-day c = (found c).day_of_month
