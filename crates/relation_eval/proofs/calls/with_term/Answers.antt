use Rattle.std.proofs.Common.{◌+ℤ◌, ◌∙◌, ℤ, sym, ap, FitsSigned, rules}
use Rattle.std.specs.Prelude.{Some, Option}
use Rattle.std.specs.Int.{w64, int_wrap}
use Rattle.std.proofs.lemmas.Int.{wrapping_add_is}
use Rattle.relation_eval.specs.Calls.{sum_with}
use Rattle.relation_eval.proofs.calls.with_term.Goals as goal

pub returns-in-Some : goal.returns-in-Some
returns-in-Some c =
    let one : FitsSigned w64 c.unwrap_or.result = search rules in
    let other : FitsSigned w64 c.in-Some.term = search rules in
    ap (λ (n : ℤ). Some n) (wrapping_add_is w64 c.unwrap_or.result c.in-Some.term one other ∙ ap (λ (n : ℤ). int_wrap w64 (n +ℤ c.in-Some.term)) c.unwrap_or.ensures)
    ∙ ap (λ (term : Option ℤ). sum_with c.args.sum term) (sym c.in-Some.is)
