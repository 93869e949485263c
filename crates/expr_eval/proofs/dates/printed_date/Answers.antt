use Rattle.std.proofs.Common.{◌≡◌, sym, ap, subst, ◌∙◌, ℤ, rules}
use Rattle.std.specs.Int.{w32}
use Rattle.std.proofs.lemmas.Int.{to_z-of_z}
use Rattle.jiff_core.specs.Date.{epoch_day}
use Rattle.jiff_fmt.specs.Text as jiff
use Rattle.cn_types.specs.Fit.{IsDay}
use Rattle.cn_types.specs.Dates.{date_text}
use Rattle.cn_types.proofs.DateFacts.{date_text-date}
use Rattle.expr_eval.proofs.dates.printed_date.Goals as goal

pub returns : goal.returns
returns c =
    let day : epoch_day c.calendar_date.result ≡ c.args.day = c.calendar_date.ensures.days ∙ to_z-of_z w32 c.args.day c.ranges.day in
    let in_range = subst (λ (days : ℤ). IsDay days) (sym day) c.requires in
    let text : date_text c.args.day ≡ jiff.date_text c.calendar_date.result = ap date_text (sym day) ∙ date_text-date c.calendar_date.result in_range in
    rw text (search rules)
