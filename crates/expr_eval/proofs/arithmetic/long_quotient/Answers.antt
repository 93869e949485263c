use Rattle.std.proofs.Common.{◌∙◌, ap, rules, FitsSigned, to_z, of_z}
use Rattle.std.specs.Prelude.{int_div}
use Rattle.std.specs.Int.{w64}
use Rattle.std.proofs.lemmas.Int.{to_z-of_z}
use Rattle.expr_eval.proofs.Numerals.{int_wrap-quotient}
use Rattle.expr_eval.proofs.arithmetic.long_quotient.Goals as goal

pub returns : goal.returns
returns c =
    let fits : FitsSigned w64 c.wrapping_div.result = search rules in
    to_z-of_z w64 c.wrapping_div.result fits ∙ c.wrapping_div.ensures
    ∙ ap (λ z. to_z w64 (of_z w64 (int_div z (to_z w64 (of_z w64 c.args.right))))) (to_z-of_z w64 c.args.left c.ranges.left)
    ∙ ap (λ z. to_z w64 (of_z w64 (int_div c.args.left z))) (to_z-of_z w64 c.args.right c.ranges.right)
    ∙ int_wrap-quotient w64 c.args.left c.args.right c.ranges.left
