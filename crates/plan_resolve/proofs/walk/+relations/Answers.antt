use Rattle.plan_resolve.proofs.Walked.{always_ok, drawn_behind}
use Rattle.plan_resolve.proofs.walk.+relations.Goals as goal

pub relation_found-returns-clause-drawn : goal.relation_found-returns-clause-drawn
relation_found-returns-clause-drawn t c =
    always_ok c.over_inputs.result
    (drawn_behind c.args.outside.now.case_sensitive c.args.outside.now.tables.now.named c.args.relation.now c.args.next.now
    c.first_found.new.next c.second_found.new.next c.in_ok-next.field-0 c.in_ok-first.ensures.drawn c.in_ok-second.ensures.drawn c.in_ok-next.ensures)
