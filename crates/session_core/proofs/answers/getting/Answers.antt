-- The first pair without a value decides.
use Rattle.std.proofs.Common.{Some, None, Ok, Err, List, ℕ, map, ◌∙◌, sym, ap}
use Rattle.session_core.specs.declared.refusal.ConfigRefusal.TheVariants as refusal
use Rattle.session_core.specs.declared.shown.Shown.{Shown}
use Rattle.session_core.specs.Shown.{told}
use Rattle.session_core.proofs.AnswerLemmas.{getting-first}
use Rattle.session_core.proofs.answers.getting.Goals as goal

pub returns-in-Some-clause-refused : goal.returns-in-Some-clause-refused
returns-in-Some-clause-refused c = λ other.
    getting-first c.args.settings.now c.args.keys.now (map told c.deref.result.now) (Some c.in-Some.key.now)
    (ap (λ (l : List Shown). map told l) c.deref.ensures.value ∙ c.in_ok-shown.ensures) c.in-Some.ensures
    ∙ ap (λ (k : List ℕ). Err (refusal.NotFound k)) (sym c.in_ok-of-in-Some.ensures)

pub returns-clause-ok : goal.returns-clause-ok
returns-clause-ok c =
    getting-first c.args.settings.now c.args.keys.now (map told c.deref.result.now) None
    (ap (λ (l : List Shown). map told l) c.deref.ensures.value ∙ c.in_ok-shown.ensures) c.in-None.ensures
    ∙ ap (λ (l : List Shown). Ok (map told l)) c.deref.ensures.value
