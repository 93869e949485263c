use Rattle.std.proofs.Common.{FitsSigned, rules}
use Rattle.std.specs.Int.{w32, w64}
use Rattle.expr_eval.proofs.Numerals.{int_wrap-low}
use Rattle.expr_eval.proofs.arithmetic.low_integer.Goals as goal

pub returns : goal.returns
returns c =
    let rest : FitsSigned w64 c.rem_euclid.result = search rules in
    let low : FitsSigned w32 c.cast_signed.result = search rules in
    int_wrap-low c.args.number c.rem_euclid.result c.cast_signed.result c.ranges.number rest low c.rem_euclid.ensures.value c.cast_signed.ensures
