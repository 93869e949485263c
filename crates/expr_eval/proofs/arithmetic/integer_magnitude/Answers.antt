use Rattle.std.proofs.Common.{◌∙◌, ap, rules, FitsSigned, to_z}
use Rattle.std.specs.Prelude.{unsigned_abs}
use Rattle.std.specs.Int.{w32}
use Rattle.std.proofs.lemmas.Int.{to_z-of_z}
use Rattle.expr_eval.proofs.Numerals.{int_wrap-magnitude}
use Rattle.expr_eval.proofs.arithmetic.integer_magnitude.Goals as goal

pub returns : goal.returns
returns c =
    let fits : FitsSigned w32 c.wrapping_abs.result = search rules in
    to_z-of_z w32 c.wrapping_abs.result fits ∙ c.wrapping_abs.ensures ∙ ap (λ z. to_z w32 (unsigned_abs z)) (to_z-of_z w32 c.args.number c.ranges.number)
    ∙ int_wrap-magnitude w32 c.args.number c.ranges.number
