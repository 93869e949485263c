use Rattle.std.proofs.Common.{◌≡◌, sym, ap, subst, ◌∙◌, ℤ, rules, arith}
use Rattle.std.proofs.lemmas.Int.{ints}
use Rattle.jiff_core.specs.Date.{epoch_day}
use Rattle.jiff_fmt.specs.Text as jiff
use Rattle.cn_types.specs.Fit.{IsDay}
use Rattle.cn_types.specs.Dates.{date_text}
use Rattle.cn_types.proofs.DateFacts.{date_text-date}
use Rattle.cn_types.proofs.dates.push_date.Goals as goal

pub returns : goal.returns
returns c =
    let day : epoch_day c.date_of.result ≡ c.args.days = omega (arith, ints) in
    let in_range = subst (λ (days : ℤ). IsDay days) (sym day) c.requires in
    let text : date_text c.args.days ≡ jiff.date_text c.date_of.result = ap date_text (sym day) ∙ date_text-date c.date_of.result in_range in
    rw text (search rules)
