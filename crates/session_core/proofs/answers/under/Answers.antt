-- A key without the prefix isn't shown, and one with it is shown without it.
use Rattle.std.proofs.Common.{◌++◌, List, ℕ, ◌∙◌, sym, ap}
use Rattle.session_core.proofs.AnswerLemmas.{under-none, under-some}
use Rattle.session_core.proofs.answers.under.Goals as goal

pub returns-in_err-rest : goal.returns-in_err-rest
returns-in_err-rest c =
    rw c.from_residual.ensures
    (under-none c.args.prefix.now c.args.pair.now (λ rest begins. c.in_err-rest.ensures.cases rest (c.as_str.ensures ∙ begins)))

pub returns : goal.returns
returns c =
    let found = c.in_ok-rest.ensures.cases in
    under-some c.args.prefix.now c.args.pair.now c.in-Some.value c.as_str-2.result.now c.in_ok-rest.rest.now c.in-Some.is c.as_str-2.ensures
    (sym c.as_str.ensures ∙ found.1.1 ∙ ap (λ (l : List ℕ). c.args.prefix.now ++ l) (sym found.2))
