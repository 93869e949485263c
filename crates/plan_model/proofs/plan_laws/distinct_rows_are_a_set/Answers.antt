use Rattle.plan_model.proofs.RelationFacts.{distinct_rows_are_a_set}
use Rattle.plan_model.proofs.plan_laws.distinct_rows_are_a_set.Goals as goal

pub returns : goal.returns
returns c = distinct_rows_are_a_set
