use Rattle.std.proofs.Common.{◌∙◌, ap, rules, FitsSigned, to_z}
use Rattle.std.specs.Prelude.{unsigned_abs}
use Rattle.std.specs.Int.{w64}
use Rattle.std.proofs.lemmas.Int.{to_z-of_z}
use Rattle.expr_eval.proofs.Numerals.{int_wrap-magnitude}
use Rattle.expr_eval.proofs.arithmetic.long_magnitude.Goals as goal

pub returns : goal.returns
returns c =
    let fits : FitsSigned w64 c.wrapping_abs.result = search rules in
    to_z-of_z w64 c.wrapping_abs.result fits ∙ c.wrapping_abs.ensures ∙ ap (λ z. to_z w64 (unsigned_abs z)) (to_z-of_z w64 c.args.number c.ranges.number)
    ∙ int_wrap-magnitude w64 c.args.number c.ranges.number
