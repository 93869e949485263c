use Rattle.std.proofs.Common.{◌∙◌, ap, rules, FitsSigned}
use Rattle.std.specs.Int.{w32, int_wrapping_neg}
use Rattle.std.proofs.lemmas.Int.{to_z-of_z, wrapping_neg_is}
use Rattle.expr_eval.proofs.arithmetic.negated_integer.Goals as goal

pub returns : goal.returns
returns c =
    let fits : FitsSigned w32 c.wrapping_neg.result = search rules in
    to_z-of_z w32 c.wrapping_neg.result fits ∙ c.wrapping_neg.ensures ∙ ap (λ z. int_wrapping_neg w32 z) (to_z-of_z w32 c.args.number c.ranges.number)
    ∙ wrapping_neg_is w32 c.args.number c.ranges.number
