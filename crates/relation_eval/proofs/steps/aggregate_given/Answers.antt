use Rattle.std.proofs.Common.{IfOk, sym, subst}
use Rattle.plan_model.specs.Groups.{IsAggregate}
use Rattle.plan_model.specs.Outcomes.{Bounded}
use Rattle.relation_eval.specs.declared.given.Given.{Given}
use Rattle.relation_eval.specs.Given.{rows_of, outcome_of}
use Rattle.relation_eval.specs.Steps.{Then}
use Rattle.relation_eval.proofs.GroupFacts.{aggregate_allowed}
use Rattle.relation_eval.proofs.steps.aggregate_given.Goals as goal

pub returns-in-Rows : goal.returns-in-Rows
returns-in-Rows c =
    let keys = c.args.keys.now in
    let calls = c.args.calls.now in
    let items = c.args.items.now in
    subst
    (λ (input : Given).
    IfOk c.aggregate.result (λ given. Then (outcome_of input) (λ a. Bounded (IsAggregate keys calls items a)) (outcome_of given)))
    (sym c.in-Rows.is)
    (aggregate_allowed c.aggregate.result keys calls items (rows_of c.in-Rows.rows) c.aggregate.ensures)
