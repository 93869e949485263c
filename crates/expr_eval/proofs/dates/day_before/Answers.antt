use Rattle.std.proofs.Common.{◌∙◌, ap, rules, FitsSigned}
use Rattle.std.specs.Int.{w32, w64}
use Rattle.std.proofs.lemmas.Int.{to_z-of_z}
use Rattle.plan_model.specs.DateFunctions.{date_in_range}
use Rattle.expr_eval.proofs.Numerals.{difference}
use Rattle.expr_eval.proofs.dates.day_before.Goals as goal

pub returns-clause-value : goal.returns-clause-value
returns-clause-value c =
    let one : FitsSigned w64 c.from.result = search rules in
    let two : FitsSigned w64 c.from-2.result = search rules in
    c.checked_date.ensures.value
    ∙ ap date_in_range (difference c.args.day c.args.days c.from.result c.from-2.result one two (c.from.ensures ∙ to_z-of_z w32 c.args.day c.ranges.day)
    (c.from-2.ensures ∙ to_z-of_z w32 c.args.days c.ranges.days) c.ranges.day c.ranges.days)
