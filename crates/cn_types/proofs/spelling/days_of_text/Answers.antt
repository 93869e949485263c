use Rattle.std.proofs.Common.{◌≡◌, rules, arith, ap, ◌∙◌}
use Rattle.std.proofs.lemmas.Int.{ints}
use mir.Syntax.{w32}
use mir.Val.{to_z, of_z}
use Rattle.jiff_core.specs.Date.{epoch_day}
use Rattle.cn_types.specs.Fit.{IsDay}
use Rattle.cn_types.specs.Dates.{date_text}
use Rattle.cn_types.proofs.PrintedFacts.{no_day_read, day_read, day_shown, day_not_shown, not_early}
use Rattle.cn_types.proofs.spelling.days_of_text.Goals as goal
use Rattle.cn_types.proofs.spelling.days_of_text.Goals.{else-days-ge-FIRST_DAY-via-then-days-ge-FIRST_DAY+in_ok-to_string+else-eq, else-days-ge-FIRST_DAY-via-else-days-ge-FIRST_DAY}

pub returns-in_default-clause-bad : goal.returns-in_default-clause-bad
returns-in_default-clause-bad c = λ bad days range e. no_day_read days c.args.text.now c.parse.result c.in_default.field-0 c.in_default.is c.parse.ensures.value range e

pub returns-then-eq-clause-ok : goal.returns-then-eq-clause-ok
returns-then-eq-clause-ok c =
    let days = c.to_unix_epoch_day-days.result in
    let same : to_z w32 (of_z w32 days) ≡ days = omega (arith, ints) in
    let range : IsDay days = (omega (arith, ints), omega (arith, ints)) in
    let day : days ≡ epoch_day c.in-Ok.date = rw c.to_plain.ensures at c.to_unix_epoch_day-days.ensures.value in
    ap date_text same ∙ day_shown c.in-Ok.date days c.as_str.result.now c.args.text.now day range (search rules) c.if-eq.ensures

pub returns-else-days-ge-FIRST_DAY-clause-bad : goal.returns-else-days-ge-FIRST_DAY-clause-bad
returns-else-days-ge-FIRST_DAY-clause-bad c =
    elim c.else-days-ge-FIRST_DAY.branch [
      | else-days-ge-FIRST_DAY-via-then-days-ge-FIRST_DAY+in_ok-to_string+else-eq w ↦
          λ bad days range e. day_not_shown days w.as_str.result.now c.args.text.now c.parse.result c.in-Ok.date c.in-Ok.is c.parse.ensures.value (search rules) w.if-eq.ensures range e
      | else-days-ge-FIRST_DAY-via-else-days-ge-FIRST_DAY w ↦ λ bad days range e.
          let day : c.to_unix_epoch_day-days.result ≡ epoch_day c.in-Ok.date = rw c.to_plain.ensures at c.to_unix_epoch_day-days.ensures.value in
          let read = day_read days c.args.text.now c.parse.result c.in-Ok.date c.in-Ok.is c.parse.ensures.value range e in
          let same : to_z w32 (of_z w32 c.to_unix_epoch_day-days.result) ≡ days = (let kept : to_z w32 (of_z w32 c.to_unix_epoch_day-days.result) ≡ c.to_unix_epoch_day-days.result = omega (arith, ints) in kept ∙ day ∙ read.0) in
          let early = rw same at w.if-days-ge-FIRST_DAY.false in
          not_early days range.0 early
    ]
