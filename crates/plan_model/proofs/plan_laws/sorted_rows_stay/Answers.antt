use Rattle.plan_model.proofs.RelationFacts.{sorted_rows_stay}
use Rattle.plan_model.proofs.plan_laws.sorted_rows_stay.Goals as goal

pub returns : goal.returns
returns c = sorted_rows_stay
