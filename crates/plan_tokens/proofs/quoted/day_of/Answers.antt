use Rattle.std.proofs.Common.{◌≡◌, sym, ap, subst, ◌∙◌, arith}
use Rattle.cn_types.specs.declared.value.Value.TheVariants.{Date}
use Rattle.cn_types.specs.declared.value.DataType.TheVariants.{Date as IsDate}
use Rattle.cn_types.specs.Spelled.{Spells}
use Rattle.std.specs.Prelude.{Some, Err}
use Rattle.std.proofs.lemmas.Int.{ints}
use mir.Syntax.{w32}
use mir.Val.{to_z, of_z}
use Rattle.cn_types.specs.Fit.{IsDay}
use Rattle.plan_tokens.proofs.Days.{a_day, another_value, refused}
use Rattle.plan_tokens.proofs.quoted.day_of.Goals as goal

pub returns-in-Ok-Date : goal.returns-in-Ok-Date
returns-in-Ok-Date c =
    let spelled : Spells IsDate c.args.text.now (Date c.in-Ok-Date.day) = subst (λ v. Spells IsDate c.args.text.now v) c.in-Ok-Date.field-0-is c.in-Ok-Date.ensures.ok in
    let range : IsDay c.in-Ok-Date.day = spelled.type in
    let same : to_z w32 (of_z w32 c.in-Ok-Date.day) ≡ c.in-Ok-Date.day = omega (arith, ints, range.0, range.1) in
    ap Some same ∙ sym (a_day c.args.text.now c.in-Ok-Date.day range spelled.spelling)

pub returns-in-Ok-Null : goal.returns-in-Ok-Null
returns-in-Ok-Null c = sym (another_value c.args.text.now c.value_of_text.result _ c.value_of_text.ensures.read_back c.in-Ok-Null.is (λ day e. cc))

pub returns-in-Err-BadValue : goal.returns-in-Err-BadValue
returns-in-Err-BadValue c = sym (refused c.args.text.now c.value_of_text.result c.value_of_text.ensures.bad (c.in-Err-BadValue.is ∙ ap Err c.in-Err-BadValue.field-0-is))
